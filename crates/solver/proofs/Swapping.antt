-- What two rows swap in lists of their own, they swap in the whole one. Assumes nothing.
use Rattle.std.proofs.Common.{◌≡◌, ℕ, zero, suc, ◌+◌, ◌-◌, ◌<◌, ◌≤◌, List, length, ◌++◌, map, set, get_or, sym, refl, ap, ◌∙◌, ap₂, arith}
use Rattle.std.proofs.lemmas.List.{get_or_append_left, get_or-append_right, get_or-map, set-append_left, set-append_right, set-get_or, map-append, map-set, length-append, length-set, length-map}
use Rattle.arithmetic.specs.Ops.{Ops}
use Rattle.linear.specs.Elimination.{cell, entry, swap_entry, swap_rows}
use Rattle.linear.specs.Loops.{steps}
use Rattle.linear.specs.Systems.{member}
use Rattle.solver.specs.Rows.{Two, two, swap_at, swap_all}

-- the list x ends where row p begins, and the upper list where row r does
module _ {M : Type 0} (o : Ops M) (p r : ℕ) (x : List M) (above : p < r) (front : length x ≡ cell p 0) where
  abbrev whole : Two M → List M
  whole s = (x ++ s.upper) ++ s.lower

  record Size (s : Two M) : Type 0 where
    size : length s.upper ≡ cell r 0 - cell p 0

  long : (s : Two M) → Size s → length (x ++ s.upper) ≡ cell r 0
  long s z = let e = z.size in let a = length-append x s.upper in omega arith

  upper : (s : Two M) → Size s → (c : ℕ) → c ≤ 15 → entry o (whole s) p c ≡ member o s.upper c
  upper s z c h =
      let e = long s z in
      get_or_append_left (x ++ s.upper) s.lower o.nought (cell p c) (omega arith)
      ∙ get_or-append_right x s.upper (cell p 0) (cell p c) o.nought front (omega arith)
      ∙ ap (λ (k : ℕ). get_or s.upper k o.nought) (let q : cell p c - cell p 0 ≡ c = omega arith in q)

  lower : (s : Two M) → Size s → (c : ℕ) → entry o (whole s) r c ≡ member o s.lower c
  lower s z c =
      get_or-append_right (x ++ s.upper) s.lower (cell r 0) (cell r c) o.nought (long s z) (omega arith)
      ∙ ap (λ (k : ℕ). get_or s.lower k o.nought) (let q : cell r c - cell r 0 ≡ c = omega arith in q)

  kept : (s : Two M) → Size s → (c : ℕ) → Size (swap_at o c s)
  kept s z c = record { size = length-set s.upper c (member o s.lower c) ∙ z.size }

  turn : (s : Two M) → Size s → (c : ℕ) → c ≤ 15 → swap_entry o p r c (whole s) ≡ whole (swap_at o c s)
  turn s z c h =
      let e = long s z in
      let up = member o s.lower c in
      let low = member o s.upper c in
      ap₂ (λ y z. set (set (whole s) (cell p c) y) (cell r c) z) (lower s z c) (upper s z c h)
      ∙ ap (λ w. set w (cell r c) low)
      (set-append_left (x ++ s.upper) s.lower (cell p c) up (omega arith)
      ∙ ap (λ a. a ++ s.lower) (set-append_right x s.upper (cell p 0) (cell p c) up front (omega arith))
      ∙ ap (λ (k : ℕ). (x ++ set s.upper k up) ++ s.lower) (let q : cell p c - cell p 0 ≡ c = omega arith in q))
      ∙ set-append_right (x ++ set s.upper c up) s.lower (cell r 0) (cell r c) low (long (swap_at o c s) (kept s z c)) (omega arith)
      ∙ ap (λ (k : ℕ). (x ++ set s.upper c up) ++ set s.lower k low) (let q : cell r c - cell r 0 ≡ c = omega arith in q)

  turns : (k c : ℕ) (s : Two M) → Size s → c + k ≤ 16 → steps (swap_entry o p r) k c (whole s) ≡ whole (steps (swap_at o) k c s)
  unfolding steps
  turns zero c s z h = refl
  turns (suc k) c s z h =
      ap (steps (swap_entry o p r) k (suc c)) (turn s z c (omega arith))
      ∙ turns k (suc c) (swap_at o c s) (kept s z c) (omega arith)

-- a row that changes places with itself stays
module _ {M : Type 0} (o : Ops M) (p : ℕ) where
  stays : (k c : ℕ) (w : List M) → steps (swap_entry o p p) k c w ≡ w
  unfolding steps
  stays zero c w = refl
  stays (suc k) c w =
      ap (steps (swap_entry o p p) k (suc c))
      (ap (λ v. set v (cell p c) (entry o w p c)) (set-get_or w (cell p c) o.nought) ∙ set-get_or w (cell p c) o.nought)
      ∙ stays k (suc c) w

pub same_row : {M : Type 0} (o : Ops M) (n p r : ℕ) (w : List M) → p ≡ r → w ≡ swap_rows o n p r w
same_row o n p r w e = sym (ap (λ (r : ℕ). swap_rows o n p r w) (sym e) ∙ stays o p (n + 1) 0 w)

-- the entries of a column, in the code's values
pub entries_swapped :
    {X M : Type 0} (o : Ops M) (m : X → M) (u l : List X) (x y : X) (c : ℕ) → c < length u → c < length l → x ≡ get_or u c x → y ≡ get_or l c y →
    two (map m (set u c y)) (map m (set l c x)) ≡ swap_at o c (two (map m u) (map m l))
entries_swapped o m u l x y c hu hl xs ys =
    let at : (q : List _) (e : _) → c < length q → e ≡ get_or q c e → m e ≡ member o (map m q) c = λ q e h s. ap m s ∙ sym (get_or-map m q c e o.nought h) in
    ap₂ two (map-set m u c y ∙ ap (set (map m u) c) (at l y hl ys)) (map-set m l c x ∙ ap (set (map m l) c) (at u x hu xs))

-- the whole list, cut where row r begins, and its front where row p does
pub rows_swapped :
    {X M : Type 0} (o : Ops M) (m : X → M) (n p r k s : ℕ) (w a b x u v l : List X) → n ≤ 15 → p < r → k ≡ cell p 0 → s ≡ cell r 0 →
    w ≡ a ++ b → length a ≡ s → a ≡ x ++ u → length x ≡ k → two (map m v) (map m l) ≡ swap_all o n (map m u) (map m b) →
    map m ((x ++ v) ++ l) ≡ swap_rows o n p r (map m w)
rows_swapped o m n p r k s w a b x u v l few above pk rs cut size cut₁ size₁ swapped =
    let parts : (y z : List _) → map m ((x ++ y) ++ z) ≡ (map m x ++ map m y) ++ map m z =
    λ y z. map-append m (x ++ y) z ∙ ap (λ a. a ++ map m z) (map-append m x y)
    in
    let front : length (map m x) ≡ cell p 0 = length-map x m ∙ size₁ ∙ pk in
    let long : length (map m u) ≡ cell r 0 - cell p 0 =
    let a₁ = length-map u m in
    let a₂ = length-append x u in
    let a₃ : length a ≡ length (x ++ u) = ap length cut₁ in
    omega arith
    in
    parts v l
    ∙ ap (λ (s : Two _). (map m x ++ s.upper) ++ s.lower) swapped
    ∙ sym (turns o p r (map m x) above front (n + 1) 0 (two (map m u) (map m b)) (record { size = long }) (omega arith))
    ∙ ap (swap_rows o n p r) (sym (ap (map m) (cut ∙ ap (λ a. a ++ b) cut₁) ∙ parts u b))
