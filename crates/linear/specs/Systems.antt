-- Linear systems of n unknowns, and what solving one in place comes to. Assumes nothing.
--
-- sum o n f         f 0 + f 1 + .. + f (n - 1)
-- member o x c      the member of the list x at c
-- image o n w x r   what the matrix takes the list x to, at row r: the sum of entry × member over the columns
-- Solves            the list x solves the system: each row's image is its right side
-- Solution          x solves the system, and any list that does agrees with it
-- InKernel          the matrix takes the list x to zero
-- TrivialKernel     only zeros go to zero
-- Singular          some list of n, not all zero, goes to zero
-- found             the n values that stand where the right sides stood
-- LinearSystems     what holds of each system of at most 15 unknowns in 304 places
use Rattle.std.specs.Prelude.{◌≡◌, ℕ, zero, suc, ◌<◌, ◌≤◌, true, false, List, map, length, slice_index_or}
use Rattle.std.specs.List.{range_with_len}
use Rattle.arithmetic.specs.Ops.{Ops}
use Rattle.linear.specs.Elimination.{entry, solved}

unfoldable pub sum : {M : Type 0} → Ops M → ℕ → (ℕ → M) → M
sum o zero f = o.nought
sum o (suc n) f = o.add (sum o n f) (f n)

abbrev pub member : {M : Type 0} → Ops M → List M → ℕ → M
member o x c = slice_index_or x c o.nought

abbrev pub image : {M : Type 0} → Ops M → ℕ → List M → List M → ℕ → M
image o n w x r = sum o n (λ c. o.mul (entry o w r c) (member o x c))

abbrev pub Solves : {M : Type 0} → Ops M → ℕ → List M → List M → Type 0
Solves o n w x = (r : ℕ) → r < n → image o n w x r ≡ entry o w r n

pub record Solution {M : Type 0} (o : Ops M) (n : ℕ) (w x : List M) : Type 0 where
  pub solves : Solves o n w x
  pub only : (y : List M) → Solves o n w y → (c : ℕ) → c < n → member o y c ≡ member o x c

abbrev pub InKernel : {M : Type 0} → Ops M → ℕ → List M → List M → Type 0
InKernel o n w x = (r : ℕ) → r < n → image o n w x r ≡ o.nought

abbrev pub TrivialKernel : {M : Type 0} → Ops M → ℕ → List M → Type 0
TrivialKernel o n w = (x : List _) → InKernel o n w x → (c : ℕ) → c < n → member o x c ≡ o.nought

pub record Singular {M : Type 0} (o : Ops M) (n : ℕ) (w : List M) : Type 0 where
  pub list : List M
  pub long : length list ≡ n
  pub at : ℕ
  pub within : at < n
  pub some : member o list at ≡ o.nought → ⊥
  pub kernel : InKernel o n w list

abbrev pub found : {M : Type 0} → Ops M → ℕ → List M → List M
found o n w = map (λ r. entry o w r n) (range_with_len 0 n)

pub record LinearSystems {M : Type 0} (o : Ops M) : Type 0 where
  -- every column finds a pivot: the found values are the solution, and only zeros go to zero
  pub pivots : (n : ℕ) (w : List M) → n ≤ 15 → 304 ≤ length w → (solved o n w).ok ≡ true → Solution o n w (found o n (solved o n w).left)
  pub regular : (n : ℕ) (w : List M) → n ≤ 15 → 304 ≤ length w → (solved o n w).ok ≡ true → TrivialKernel o n w
  -- some column finds none: a list that is not all zero goes to zero
  pub none : (n : ℕ) (w : List M) → n ≤ 15 → 304 ≤ length w → (solved o n w).ok ≡ false → Singular o n w
  -- so where only zeros go to zero, every column finds one
  pub granted : (n : ℕ) (w : List M) → n ≤ 15 → 304 ≤ length w → TrivialKernel o n w → (solved o n w).ok ≡ true
