-- Back substitution: the found values solve the rows that elimination left. Assumes nothing.
use Rattle.std.proofs.Common.{◌≡◌, ℕ, suc, ◌+◌, ◌-◌, ◌<◌, ◌≤◌, ◌≢◌, List, length, sym, refl, ap, ◌∙◌, subst, ap₂, arith, length-set}
use native.Mathlib.Decide.{ℕ_discrete}
use Rattle.arithmetic.specs.Ops.{Ops, Exact}
use Rattle.linear.specs.Loops.{steps}
use Rattle.linear.specs.Elimination.{cell, entry, lose_found, back_row, back}
use Rattle.linear.specs.Systems.{sum}
use Rattle.linear.proofs.Loops.{steps-keep, down-keep}
use Rattle.linear.proofs.Ring.{ring, zero-mul}
use Rattle.linear.proofs.Sums.{sum_same, sum_only, sum_split}
use Rattle.linear.proofs.Entries.{entry_same, entry_row, entry_column}
use Rattle.linear.proofs.Stages.{Stage, entries}

module _ {M : Type 0} {o : Ops M} (laws : Exact o) where
  -- the right side of row r has lost its products with the found values of the columns from r + 1 up to j
  record Losing (n r : ℕ) (w : List M) (j : ℕ) (v : List M) : Type 0 where
    long : length v ≡ length w
    lost : o.add (entry o v r n) (sum o (j - (r + 1)) (λ k. o.mul (entry o w r (r + 1 + k)) (entry o w (r + 1 + k) n))) ≡ entry o w r n
    matrix : (q k : ℕ) → k < n → entry o v q k ≡ entry o w q k
    others : (q : ℕ) → q ≢ r → entry o v q n ≡ entry o w q n

  regroup : (v p s : M) → o.add (o.sub v p) (o.add s p) ≡ o.add v s
  regroup v p s = simp (ring, laws)

  sum-one_more : (a j : ℕ) (f : ℕ → M) → a ≤ j → sum o (suc j - a) f ≡ o.add (sum o (j - a) f) (f (j - a))
  unfolding sum
  sum-one_more a j f h = ap (λ n. sum o n f) (let e : suc j - a ≡ suc (j - a) = omega arith in e)

  sum-none : (a : ℕ) (x : M) (f : ℕ → M) → o.add x (sum o (a - a) f) ≡ x
  unfolding sum
  sum-none a x f = ap (λ n. o.add x (sum o n f)) (let e : a - a ≡ 0 = omega arith in e) ∙ laws.add-zero x

  losing-turn :
      (n r : ℕ) (w : List M) → n ≤ 15 → r < n → 304 ≤ length w →
      (j : ℕ) (v : List M) → r + 1 ≤ j → j < n → Losing n r w j v → Losing n r w (suc j) (lose_found o n r j v)
  losing-turn n r w hn hr long j v from to h =
      let size = h.long in
      let p = o.mul (entry o v r j) (entry o v j n) in
      let new = o.sub (entry o v r n) p in
      let f : ℕ → M = λ k. o.mul (entry o w r (r + 1 + k)) (entry o w (r + 1 + k) n) in
      let product : p ≡ f (j - (r + 1)) =
      ap₂ o.mul (h.matrix r j (omega arith)) (h.others j (omega arith))
      ∙ ap (λ (k : ℕ). o.mul (entry o w r k) (entry o w k n)) (let e : j ≡ r + 1 + (j - (r + 1)) = omega arith in e)
      in
      record {
        long = length-set v (cell r n) new ∙ h.long;
        lost =
            ap₂ o.add (entry_same o v r n new (omega arith) (omega arith) (omega arith)) (sum-one_more (r + 1) j f (omega arith) ∙ ap (o.add (sum o (j - (r + 1)) f)) (sym product))
            ∙ regroup (entry o v r n) p (sum o (j - (r + 1)) f)
            ∙ h.lost;
        matrix = λ q k a. entry_column o v r n q k new (omega arith) (omega arith) (omega arith) ∙ h.matrix q k a;
        others = λ q a. entry_row o v r n q n new a (omega arith) (omega arith) ∙ h.others q a;
      }

  losing : (n r : ℕ) (w : List M) → n ≤ 15 → r < n → 304 ≤ length w → Losing n r w n (steps (lose_found o n r) (n - (r + 1)) (r + 1) w)
  losing n r w hn hr long =
      steps-keep (Losing n r w) (lose_found o n r) (n - (r + 1)) (r + 1) n w (omega arith)
      (record { long = refl; lost = sum-none (r + 1) (entry o w r n) (λ k. o.mul (entry o w r (r + 1 + k)) (entry o w (r + 1 + k) n)); matrix = λ q k a. refl; others = λ q a. refl })
      (losing-turn n r w hn hr long)

  -- the rows from m on are solved
  pub record Found (n : ℕ) (w : List M) (m : ℕ) (v : List M) : Type 0 where
    pub long : length v ≡ length w
    pub matrix : (q k : ℕ) → k < n → entry o v q k ≡ entry o w q k
    pub waiting : (r : ℕ) → r < m → entry o v r n ≡ entry o w r n
    pub solves : (r : ℕ) → m ≤ r → r < n → sum o n (λ c. o.mul (entry o w r c) (entry o v c n)) ≡ entry o w r n

  undone : (a x b : M) → (a ≡ o.nought → ⊥) → b ≡ a → o.mul a (o.div x b) ≡ x
  undone a x b some e = ap (λ y. o.mul a (o.div x y)) e ∙ laws.mul-div x a some

  found_turn :
      (n : ℕ) (A : ℕ → ℕ → M) (w : List M) → n ≤ 15 → 304 ≤ length w → Stage o n n A (entries o w) →
      (j : ℕ) (v : List M) → j < n → Found n w (suc j) v → Found n w j (back_row o n j v)
  found_turn n A w hn long s j v hj h =
      let size = h.long in
      let u = steps (lose_found o n j) (n - (j + 1)) (j + 1) v in
      let l = losing n j v hn hj (omega arith) in
      let size₁ = l.long in
      let new = o.div (entry o u j n) (entry o u j j) in
      let v₁ = back_row o n j v in
      let at : entry o v₁ j n ≡ new = entry_same o u j n new (omega arith) (omega arith) (omega arith) in
      let off : (q : ℕ) → q ≢ j → entry o v₁ q n ≡ entry o v q n = λ q ne. entry_row o u j n q n new ne (omega arith) (omega arith) ∙ l.others q ne in
      let F : ℕ → M = λ c. o.mul (entry o w j c) (entry o v₁ c n) in
      let own : sum o (j + 1) F ≡ entry o u j n =
      sum_only laws (j + 1) j F (omega arith) (λ c a ne. ap (λ y. o.mul y (entry o v₁ c n)) (s.zeros c j (omega arith) (omega arith) hj) ∙ zero-mul laws (entry o v₁ c n))
      ∙ ap (o.mul (entry o w j j)) at
      ∙ undone (entry o w j j) (entry o u j n) (entry o u j j) (s.pivot j hj) (l.matrix j j hj ∙ h.matrix j j hj)
      in
      let rest : sum o (n - (j + 1)) (λ k. F (j + 1 + k)) ≡ sum o (n - (j + 1)) (λ k. o.mul (entry o v j (j + 1 + k)) (entry o v (j + 1 + k) n)) =
      sum_same o (n - (j + 1)) (λ k. F (j + 1 + k)) (λ k. o.mul (entry o v j (j + 1 + k)) (entry o v (j + 1 + k) n))
      (λ k a. ap₂ o.mul (sym (h.matrix j (j + 1 + k) (omega arith))) (off (j + 1 + k) (omega arith)))
      in
      let here : sum o n F ≡ entry o w j n =
      ap (λ (m : ℕ). sum o m F) (let e : n ≡ j + 1 + (n - (j + 1)) = omega arith in e)
      ∙ sum_split laws (j + 1) (n - (j + 1)) F
      ∙ ap₂ o.add own rest
      ∙ l.lost
      ∙ h.waiting j (omega arith)
      in
      record {
        long = length-set u (cell j n) new ∙ l.long ∙ h.long;
        matrix = λ q k a. entry_column o u j n q k new (omega arith) (omega arith) (omega arith) ∙ l.matrix q k a ∙ h.matrix q k a;
        waiting = λ r a. off r (omega arith) ∙ h.waiting r (omega arith);
        solves = λ r a b. elim (ℕ_discrete r j) [
          | yes e ↦ subst (λ (r : ℕ). sum o n (λ c. o.mul (entry o w r c) (entry o v₁ c n)) ≡ entry o w r n) (sym e) here
          | no e ↦ sum_same o n (λ c. o.mul (entry o w r c) (entry o v₁ c n)) (λ c. o.mul (entry o w r c) (entry o v c n)) (λ c m. elim (ℕ_discrete c j) [
            | yes i ↦ let z : entry o w r c ≡ o.nought = ap (λ (c : ℕ). entry o w r c) i ∙ s.zeros j r hj (omega arith) b in
                ap (λ y. o.mul y (entry o v₁ c n)) z ∙ zero-mul laws (entry o v₁ c n) ∙ sym (ap (λ y. o.mul y (entry o v c n)) z ∙ zero-mul laws (entry o v c n))
            | no i ↦ ap (o.mul (entry o w r c)) (off c i)
          ]) ∙ h.solves r (omega arith) b
        ];
      }

  pub found_all : (n : ℕ) (A : ℕ → ℕ → M) (w : List M) → n ≤ 15 → 304 ≤ length w → Stage o n n A (entries o w) → Found n w 0 (back o n w)
  found_all n A w hn long s =
      down-keep (Found n w) (back_row o n) n w
      (record { long = refl; matrix = λ q k a. refl; waiting = λ r a. refl; solves = λ r a b. absurd (omega arith) })
      (found_turn n A w hn long s)
