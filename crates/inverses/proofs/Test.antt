-- The rule of the table of inverses, from one test at all of its entries. Assumes nothing.
use mathlib.Core.Path.{◌≡◌, refl, sym, subst, ◌∙◌}
use mathlib.Core.Logic.{⊎_elim}
use mathlib.Core.Bool.{Bool, true, false}
use mathlib.Core.List.{List, [], ◌∷◌}
use Prim.Native.Nat.{ℕ, zero, suc, ◌+◌, ◌*◌, ◌%◌, ◌<◌}
use native.Mathlib.Nat.{eq-or-lt_of_le, add-zero, zero-add, zero-lt-suc, add-suc, suc-add, le_of_suc-le-suc, not-suc-le-zero}
use lib.Dec.{T, eqb, ltb, eqb→eq, ltb→lt, lit<}
use lib.ListN.{length, get_or}
use Rattle.inverses.specs.Inverse.{inverse_of, IsInverse}
use Rattle.inverses.proofs.Remainders.{one_inverse}

abbrev both : Bool → Bool → Bool
both true b = b
both false b = false

both_left : (a b : Bool) → T (both a b) → T a
both_left true b t = tt
both_left false b t = t

both_right : (a b : Bool) → T (both a b) → T b
both_right true b t = t
both_right false b t = absurd t

-- the test f passes at each place of the list, counted from i
abbrev every : (ℕ → ℕ → Bool) → ℕ → List ℕ → Bool
every f i [] = true
every f i (x ∷ xs) = both (f i x) (every f (suc i) xs)

from : (f : ℕ → ℕ → Bool) (xs : List ℕ) (i : ℕ) → T (every f i xs) → (k : ℕ) → k < length xs → T (f (i + k) (get_or xs k 0))
from f [] i t k h = absurd (not-suc-le-zero h)
from f (x ∷ xs) i t zero h = subst (λ (m : ℕ). T (f m x)) (sym (add-zero i)) (both_left (f i x) (every f (suc i) xs) t)
from f (x ∷ xs) i t (suc k) h =
    subst (λ (m : ℕ). T (f m (get_or xs k 0))) (suc-add i k ∙ sym (add-suc i k))
    (from f xs (suc i) (both_right (f i x) (every f (suc i) xs) t) k (le_of_suc-le-suc h))

at : (f : ℕ → ℕ → Bool) (xs : List ℕ) → T (every f 0 xs) → (k : ℕ) → k < length xs → T (f k (get_or xs k 0))
at f xs t k h = subst (λ (m : ℕ). T (f m (get_or xs k 0))) (zero-add k) (from f xs 0 t k h)

-- x is below 8,191, and times n it leaves 1; it is 0 where n is
abbrev pub right : ℕ → ℕ → Bool
right zero x = eqb x 0
right (suc n) x = both (ltb x 8191) (eqb (suc n * x % 8191) 1)

-- the ladder of squarings passes the test at every number below m
abbrev below : ℕ → Bool
below zero = true
below (suc n) = both (right n (inverse_of n)) (below n)

below_at : (m n : ℕ) → T (below m) → n < m → T (right n (inverse_of n))
below_at zero n t h = absurd (not-suc-le-zero h)
below_at (suc m) n t h =
    ⊎_elim (λ e. subst (λ (k : ℕ). T (right k (inverse_of k))) (sym e) (both_left (right m (inverse_of m)) (below m) t))
    (λ l. below_at m n (both_right (right m (inverse_of m)) (below m) t) l)
    (eq-or-lt_of_le (le_of_suc-le-suc h))

all-below : T (below 8191)
unfolding inverse_of
all-below = tt

record Undoes (n x : ℕ) : Type 0 where
  small : x < 8191
  rule : (n ≡ 0 → ⊥) → n * x % 8191 ≡ 1
  none : n ≡ 0 → x ≡ 0

undoes : (n x : ℕ) → T (right n x) → Undoes n x
undoes zero x t =
    let e = eqb→eq x 0 t in
    record { small = subst (λ (y : ℕ). y < 8191) (sym e) (lit< tt); rule = λ h. absurd (h refl); none = λ _. e }
undoes (suc n) x t = record {
  small = ltb→lt x 8191 (both_left (ltb x 8191) (eqb (suc n * x % 8191) 1) t);
  rule = λ h. eqb→eq (suc n * x % 8191) 1 (both_right (ltb x 8191) (eqb (suc n * x % 8191) 1) t);
  none = λ e. absurd (not-suc-le-zero (subst (λ (y : ℕ). 0 < y) e (zero-lt-suc n)));
}

ladder_undoes : (n : ℕ) → n < 8191 → Undoes n (inverse_of n)
ladder_undoes n h = undoes n (inverse_of n) (below_at 8191 n all-below h)

pub inverse_rule : (n : ℕ) → n < 8191 → (n ≡ 0 → ⊥) → n * inverse_of n % 8191 ≡ 1
inverse_rule n h = (ladder_undoes n h).rule

same : (n x : ℕ) → Undoes n x → Undoes n (inverse_of n) → x ≡ inverse_of n
same zero x a b = a.none refl ∙ sym (b.none refl)
same (suc n) x a b =
    let some : suc n ≡ 0 → ⊥ = λ e. not-suc-le-zero (subst (λ (y : ℕ). 0 < y) e (zero-lt-suc n)) in
    one_inverse (suc n) x (inverse_of (suc n)) 8191 a.small b.small (a.rule some) (b.rule some)

-- a table of 8,191 entries that passes the test at each of them holds the inverses
pub inverse_at : (xs : List ℕ) (n : ℕ) → T (every right 0 xs) → n < 8191 → n < length xs → IsInverse n (get_or xs n 0)
inverse_at xs n t h w =
    let it = undoes n (get_or xs n 0) (at right xs t n w) in
    record { value = same n (get_or xs n 0) it (ladder_undoes n h); below = it.small; rule = it.rule }
