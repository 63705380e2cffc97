-- What a row loses in its own list, it loses in the whole one. Assumes nothing.
use Rattle.std.proofs.Common.{◌≡◌, ℕ, zero, suc, ◌+◌, ◌-◌, ◌<◌, ◌≤◌, List, length, ◌++◌, take, drop, map, set, get_or, sym, refl, ap, ◌∙◌, ap₂, arith}
use Rattle.std.proofs.lemmas.List.{get_or_append_left, get_or-append_right, get_or-drop, get_or-map, set-append_right, map-append, map-set, length-map, drop-map, take_rest}
use Rattle.arithmetic.specs.Ops.{Ops}
use Rattle.linear.specs.Elimination.{cell, entry, lose_entry, lose_row}
use Rattle.linear.specs.Loops.{steps}
use Rattle.linear.specs.Systems.{member}
use Rattle.solver.specs.Rows.{lose_at, lose_all}

-- the list a ends where row r begins
module _ {M : Type 0} (o : Ops M) (p r : ℕ) (a : List M) (above : p < r) (size : length a ≡ cell r 0) where
  column : (c : ℕ) → cell r c - cell r 0 ≡ c
  column c = omega arith

  upper : (b : List M) (c : ℕ) → c ≤ 15 → entry o (a ++ b) p c ≡ member o (drop (cell p 0) a) c
  upper b c h =
      get_or_append_left a b o.nought (cell p c) (omega arith)
      ∙ ap (λ (k : ℕ). get_or a k o.nought) (let s : cell p c ≡ cell p 0 + c = omega arith in s)
      ∙ sym (get_or-drop (cell p 0) a c o.nought)

  lower : (b : List M) (c : ℕ) → entry o (a ++ b) r c ≡ member o b c
  lower b c = get_or-append_right a b (cell r 0) (cell r c) o.nought size (omega arith) ∙ ap (λ (k : ℕ). get_or b k o.nought) (column c)

  turn : (t : M) (b : List M) (c : ℕ) → c ≤ 15 → lose_entry o p r t c (a ++ b) ≡ a ++ lose_at o (drop (cell p 0) a) t c b
  turn t b c h =
      let new = o.sub (member o b c) (o.mul t (member o (drop (cell p 0) a) c)) in
      ap (set (a ++ b) (cell r c)) (ap₂ (λ x y. o.sub x (o.mul t y)) (lower b c) (upper b c h))
      ∙ set-append_right a b (cell r 0) (cell r c) new size (omega arith)
      ∙ ap (λ (k : ℕ). a ++ set b k new) (column c)

  turns : (t : M) (k c : ℕ) (b : List M) → c + k ≤ 16 → steps (lose_entry o p r t) k c (a ++ b) ≡ a ++ steps (lose_at o (drop (cell p 0) a) t) k c b
  unfolding steps
  turns t zero c b h = refl
  turns t (suc k) c b h =
      ap (steps (lose_entry o p r t) k (suc c)) (turn t b c (omega arith))
      ∙ turns t k (suc c) (lose_at o (drop (cell p 0) a) t c b) (omega arith)

-- so does the whole list, cut where row r begins
pub row_lost :
    {X M : Type 0} (o : Ops M) (m : X → M) (n p r i j k s : ℕ) (w a b v : List X) (t x y : X) → n ≤ 15 → p < r → r < n →
    i ≡ cell r p → j ≡ cell p p → k ≡ cell p 0 → s ≡ cell r 0 →
    m x ≡ member o (map m w) i → m y ≡ member o (map m w) j → m t ≡ o.div (m x) (m y) →
    w ≡ a ++ b → length a ≡ s → map m v ≡ lose_all o (map m (take (length a - k) (drop k a))) (m t) n p (map m b) →
    map m (a ++ v) ≡ lose_row o n p r (map m w)
row_lost o m n p r i j k s w a b v t x y few above below ri pi at mid xs ys ts cut size lost =
    let u : map m (take (length a - k) (drop k a)) ≡ drop (cell p 0) (map m a) =
    ap (map m) (take_rest a k ∙ ap (λ k. drop k a) at) ∙ sym (drop-map m (cell p 0) a)
    in
    let factor = ts ∙ ap₂ o.div (xs ∙ ap (member o (map m w)) ri) (ys ∙ ap (member o (map m w)) pi) in
    map-append m a v
    ∙ ap (λ l. map m a ++ l) (lost ∙ ap (λ u. lose_all o u (m t) n p (map m b)) u)
    ∙ sym (turns o p r (map m a) above (length-map a m ∙ size ∙ mid) (m t) (n + 1 - p) p (map m b) (omega arith))
    ∙ ap (steps (lose_entry o p r (m t)) (n + 1 - p) p) (sym (ap (map m) cut ∙ map-append m a b))
    ∙ ap (λ t. steps (lose_entry o p r t) (n + 1 - p) p (map m w)) factor

-- one entry lost, in the code's values
pub entry_lost :
    {X M : Type 0} (o : Ops M) (m : X → M) (u l : List X) (t x y z v : X) (c : ℕ) → c < length u → c < length l → x ≡ get_or l c x → y ≡ get_or u c y →
    m z ≡ o.mul (m t) (m y) → m v ≡ o.sub (m x) (m z) → map m (set l c v) ≡ lose_at o (map m u) (m t) c (map m l)
entry_lost o m u l t x y z v c hu hl xs ys zs vs =
    let at : (q : List _) (e : _) → c < length q → e ≡ get_or q c e → m e ≡ member o (map m q) c = λ q e h s. ap m s ∙ sym (get_or-map m q c e o.nought h) in
    map-set m l c v
    ∙ ap (set (map m l) c) (vs ∙ ap₂ o.sub (at l x hl xs) (zs ∙ ap (o.mul (m t)) (at u y hu ys)))
