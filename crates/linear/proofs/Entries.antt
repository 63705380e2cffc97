-- What a write to one cell leaves in the others, and what each loop of the elimination leaves in every entry. Assumes nothing.
use Rattle.std.proofs.Common.{◌≡◌, ℕ, suc, ◌+◌, ◌-◌, ◌<◌, ◌≤◌, ◌≢◌, List, length, set, sym, refl, ap, ◌∙◌, ap₂, arith, length-set, get_or-set_other, get_or-set_same}
use native.Mathlib.Decide.{ℕ_discrete}
use Rattle.arithmetic.specs.Ops.{Ops}
use Rattle.linear.specs.Elimination.{cell, entry, lose_entry, lose_row, clear, swap_entry, swap_rows}
use Rattle.linear.proofs.Loops.{steps-keep}

module _ {M : Type 0} (o : Ops M) where
  pub entry_same : (w : List M) (r c : ℕ) (v : M) → r < 15 → c ≤ 15 → 304 ≤ length w → entry o (set w (cell r c) v) r c ≡ v
  entry_same w r c v hr hc long = get_or-set_same w (cell r c) v o.nought (omega arith)

  pub entry_column : (w : List M) (r c q k : ℕ) (v : M) → k ≢ c → c ≤ 15 → k ≤ 15 → entry o (set w (cell r c) v) q k ≡ entry o w q k
  entry_column w r c q k v ne hc hk = get_or-set_other w (cell r c) (cell q k) v o.nought (omega arith)

  pub entry_row : (w : List M) (r c q k : ℕ) (v : M) → q ≢ r → c ≤ 15 → k ≤ 15 → entry o (set w (cell r c) v) q k ≡ entry o w q k
  entry_row w r c q k v ne hc hk = get_or-set_other w (cell r c) (cell q k) v o.nought (omega arith)

  -- row r has lost t times row p in the columns from p up to j
  pub record Lost (n p r : ℕ) (t : M) (w : List M) (j : ℕ) (v : List M) : Type 0 where
    pub long : length v ≡ length w
    pub lost : (k : ℕ) → p ≤ k → k < j → k ≤ n → entry o v r k ≡ o.sub (entry o w r k) (o.mul t (entry o w p k))
    pub before : (q k : ℕ) → k < p → k ≤ 15 → entry o v q k ≡ entry o w q k
    pub ahead : (q k : ℕ) → j ≤ k → k ≤ 15 → entry o v q k ≡ entry o w q k
    pub others : (q k : ℕ) → q ≢ r → k ≤ 15 → entry o v q k ≡ entry o w q k

  lost-turn :
      (n p r : ℕ) (t : M) (w : List M) → n ≤ 15 → r < 15 → p ≢ r → 304 ≤ length w →
      (j : ℕ) (v : List M) → p ≤ j → j < n + 1 → Lost n p r t w j v → Lost n p r t w (suc j) (lose_entry o p r t j v)
  lost-turn n p r t w hn hr ne long j v from to h =
      let size = h.long in
      let new = o.sub (entry o v r j) (o.mul t (entry o v p j)) in
      record {
        long = length-set v (cell r j) new ∙ h.long;
        lost = λ k a b e. elim (ℕ_discrete k j) [
          | yes i ↦ ap (λ (k : ℕ). entry o (set v (cell r j) new) r k) i
              ∙ entry_same v r j new hr (omega arith) (omega arith)
              ∙ ap₂ (λ x y. o.sub x (o.mul t y)) (h.ahead r j (omega arith) (omega arith)) (h.ahead p j (omega arith) (omega arith))
              ∙ ap (λ (k : ℕ). o.sub (entry o w r k) (o.mul t (entry o w p k))) (sym i)
          | no i ↦ entry_column v r j r k new i (omega arith) (omega arith) ∙ h.lost k a (omega arith) e
        ];
        before = λ q k a b. entry_column v r j q k new (omega arith) (omega arith) b ∙ h.before q k a b;
        ahead = λ q k a b. entry_column v r j q k new (omega arith) (omega arith) b ∙ h.ahead q k (omega arith) b;
        others = λ q k a b. entry_row v r j q k new a (omega arith) b ∙ h.others q k a b;
      }

  pub lost-row :
      (n p r : ℕ) (w : List M) → n ≤ 15 → p < n → r < 15 → p ≢ r → 304 ≤ length w →
      Lost n p r (o.div (entry o w r p) (entry o w p p)) w (n + 1) (lose_row o n p r w)
  lost-row n p r w hn hp hr ne long =
      let t = o.div (entry o w r p) (entry o w p p) in
      steps-keep (Lost n p r t w) (lose_entry o p r t) (n + 1 - p) p (n + 1) w (omega arith)
      (record { long = refl; lost = λ k a b e. absurd (omega arith); before = λ q k a b. refl; ahead = λ q k a b. refl; others = λ q k a b. refl })
      (lost-turn n p r t w hn hr ne long)

  -- the rows below p have lost their multiples of row p, down to row j
  pub record Cleared (n p : ℕ) (w : List M) (j : ℕ) (v : List M) : Type 0 where
    pub long : length v ≡ length w
    pub lower :
        (r k : ℕ) → p < r → r < j → p ≤ k → k ≤ n →
        entry o v r k ≡ o.sub (entry o w r k) (o.mul (o.div (entry o w r p) (entry o w p p)) (entry o w p k))
    pub before : (r k : ℕ) → k < p → k ≤ 15 → entry o v r k ≡ entry o w r k
    pub upper : (r k : ℕ) → r ≤ p → k ≤ 15 → entry o v r k ≡ entry o w r k
    pub ahead : (r k : ℕ) → j ≤ r → k ≤ 15 → entry o v r k ≡ entry o w r k

  cleared-turn :
      (n p : ℕ) (w : List M) → n ≤ 15 → p < n → 304 ≤ length w →
      (j : ℕ) (v : List M) → p + 1 ≤ j → j < n → Cleared n p w j v → Cleared n p w (suc j) (lose_row o n p j v)
  cleared-turn n p w hn hp long j v from to h =
      let size = h.long in
      let l = lost-row n p j v hn hp (omega arith) (omega arith) (omega arith) in
      let here : (k : ℕ) → k ≤ 15 → entry o v j k ≡ entry o w j k = λ k b. h.ahead j k (omega arith) b in
      let above : (k : ℕ) → k ≤ 15 → entry o v p k ≡ entry o w p k = λ k b. h.upper p k (omega arith) b in
      record {
        long = l.long ∙ h.long;
        lower = λ r k a b e d. elim (ℕ_discrete r j) [
          | yes i ↦ ap (λ (r : ℕ). entry o (lose_row o n p j v) r k) i
              ∙ l.lost k e (omega arith) d
              ∙ ap₂ o.sub (here k (omega arith)) (ap₂ o.mul (ap₂ o.div (here p (omega arith)) (above p (omega arith))) (above k (omega arith)))
              ∙ ap (λ (r : ℕ). o.sub (entry o w r k) (o.mul (o.div (entry o w r p) (entry o w p p)) (entry o w p k))) (sym i)
          | no i ↦ l.others r k i (omega arith) ∙ h.lower r k a (omega arith) e d
        ];
        before = λ r k a b. l.before r k a b ∙ h.before r k a b;
        upper = λ r k a b. l.others r k (omega arith) b ∙ h.upper r k a b;
        ahead = λ r k a b. l.others r k (omega arith) b ∙ h.ahead r k (omega arith) b;
      }

  pub cleared : (n p : ℕ) (w : List M) → n ≤ 15 → p < n → 304 ≤ length w → Cleared n p w n (clear o n p w)
  cleared n p w hn hp long =
      steps-keep (Cleared n p w) (lose_row o n p) (n - (p + 1)) (p + 1) n w (omega arith)
      (record { long = refl; lower = λ r k a b e d. absurd (omega arith); before = λ r k a b. refl; upper = λ r k a b. refl; ahead = λ r k a b. refl })
      (cleared-turn n p w hn hp long)

  -- rows p and q have changed places in the columns up to j
  pub record Swapped (n p q : ℕ) (w : List M) (j : ℕ) (v : List M) : Type 0 where
    pub long : length v ≡ length w
    pub up : (k : ℕ) → k < j → k ≤ n → entry o v p k ≡ entry o w q k
    pub low : (k : ℕ) → k < j → k ≤ n → entry o v q k ≡ entry o w p k
    pub ahead : (r k : ℕ) → j ≤ k → k ≤ 15 → entry o v r k ≡ entry o w r k
    pub others : (r k : ℕ) → r ≢ p → r ≢ q → k ≤ 15 → entry o v r k ≡ entry o w r k

  -- the upper row's entry after a swap, whether or not the rows differ
  swap_up : (v : List M) (p q j : ℕ) → p < 15 → q < 15 → j ≤ 15 → 304 ≤ length v → entry o (swap_entry o p q j v) p j ≡ entry o v q j
  swap_up v p q j hp hq hj long =
      let one = set v (cell p j) (entry o v q j) in
      let size : length one ≡ length v = length-set v (cell p j) (entry o v q j) in
      elim (ℕ_discrete p q) [
        | yes i ↦ ap (λ (r : ℕ). entry o (swap_entry o p q j v) r j) i
            ∙ entry_same one q j (entry o v p j) hq hj (omega arith)
            ∙ ap (λ (r : ℕ). entry o v r j) i
        | no i ↦ entry_row one q j p j (entry o v p j) i hj hj ∙ entry_same v p j (entry o v q j) hp hj long
      ]

  swapped-turn :
      (n p q : ℕ) (w : List M) → n ≤ 15 → p < n → q < n → 304 ≤ length w →
      (j : ℕ) (v : List M) → 0 ≤ j → j < n + 1 → Swapped n p q w j v → Swapped n p q w (suc j) (swap_entry o p q j v)
  swapped-turn n p q w hn hp hq long j v from to h =
      let size = h.long in
      let x = entry o v q j in
      let y = entry o v p j in
      let one = set v (cell p j) x in
      let size₁ : length one ≡ length v = length-set v (cell p j) x in
      let beside : (r k : ℕ) → k ≢ j → k ≤ 15 → entry o (swap_entry o p q j v) r k ≡ entry o v r k =
      λ r k a b. entry_column one q j r k y a (omega arith) b ∙ entry_column v p j r k x a (omega arith) b
      in
      record {
        long = length-set one (cell q j) y ∙ size₁ ∙ h.long;
        up = λ k a b. elim (ℕ_discrete k j) [
          | yes i ↦ ap (λ (k : ℕ). entry o (swap_entry o p q j v) p k) i
              ∙ swap_up v p q j (omega arith) (omega arith) (omega arith) (omega arith)
              ∙ h.ahead q j (omega arith) (omega arith)
              ∙ ap (λ (k : ℕ). entry o w q k) (sym i)
          | no i ↦ beside p k i (omega arith) ∙ h.up k (omega arith) b
        ];
        low = λ k a b. elim (ℕ_discrete k j) [
          | yes i ↦ ap (λ (k : ℕ). entry o (swap_entry o p q j v) q k) i
              ∙ entry_same one q j y (omega arith) (omega arith) (omega arith)
              ∙ h.ahead p j (omega arith) (omega arith)
              ∙ ap (λ (k : ℕ). entry o w p k) (sym i)
          | no i ↦ beside q k i (omega arith) ∙ h.low k (omega arith) b
        ];
        ahead = λ r k a b. beside r k (omega arith) b ∙ h.ahead r k (omega arith) b;
        others = λ r k a b e. entry_row one q j r k y b (omega arith) e ∙ entry_row v p j r k x a (omega arith) e ∙ h.others r k a b e;
      }

  pub swapped : (n p q : ℕ) (w : List M) → n ≤ 15 → p < n → q < n → 304 ≤ length w → Swapped n p q w (n + 1) (swap_rows o n p q w)
  swapped n p q w hn hp hq long =
      steps-keep (Swapped n p q w) (swap_entry o p q) (n + 1) 0 (n + 1) w (omega arith)
      (record { long = refl; up = λ k a b. absurd (omega arith); low = λ k a b. absurd (omega arith); ahead = λ r k a b. refl; others = λ r k a b e. refl })
      (swapped-turn n p q w hn hp hq long)
