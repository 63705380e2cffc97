-- How far the elimination has come: after i columns, and where a column has no pivot. Assumes nothing.
use Rattle.std.proofs.Common.{◌≡◌, ℕ, suc, ◌+◌, ◌-◌, ◌<◌, ◌≤◌, Bool, true, false, cond, List, length, sym, refl, ap, ◌∙◌, subst, ap₂, arith, ltb-false, ltb-true}
use native.Mathlib.Decide.{ℕ_discrete, dec_lt}
use borrow.Author.Tests.{not-true, not-false}
use Rattle.arithmetic.specs.Ops.{Ops, Exact, may_divide}
use Rattle.linear.specs.Elimination.{entry, clear, swap_rows, pivot_row, eliminate_column, eliminate}
use Rattle.linear.proofs.Loops.{Ends, tries-keep, First, first_is}
use Rattle.linear.proofs.Ring.{ring}
use Rattle.linear.proofs.Entries.{Cleared, cleared, Swapped, swapped}
use Rattle.linear.proofs.Matrix.{Alike, Exchanged, exchanged_alike, Reduced, reduced_alike}

-- B has what goes to zero from A, i pivots, and zeros below them
pub record Stage {M : Type 0} (o : Ops M) (n i : ℕ) (A B : ℕ → ℕ → M) : Type 0 where
  pub alike : Alike o n A B
  pub pivot : (k : ℕ) → k < i → B k k ≡ o.nought → ⊥
  pub zeros : (k r : ℕ) → k < i → k < r → r < n → B r k ≡ o.nought

-- what stands in the list w
abbrev pub entries : {M : Type 0} → Ops M → List M → ℕ → ℕ → M
entries o w r k = entry o w r k

-- a stage of the elimination of w, in the list v
pub record Went {M : Type 0} (o : Ops M) (n : ℕ) (w : List M) (i : ℕ) (v : List M) : Type 0 where
  pub long : length v ≡ length w
  pub stage : Stage o n i (entries o w) (entries o v)

-- the elimination of w stopped with v: at some column there is nothing but zeros from its own row on
pub record Stopped {M : Type 0} (o : Ops M) (n : ℕ) (w v : List M) : Type 0 where
  pub column : ℕ
  pub within : column < n
  pub went : Went o n w column v
  pub empty : (r : ℕ) → column ≤ r → r < n → entry o v r column ≡ o.nought

alike_then : {M : Type 0} (o : Ops M) (n : ℕ) (A B C : ℕ → ℕ → M) → Alike o n A B → Alike o n B C → Alike o n A C
alike_then o n A B C a b = record { there = λ x z. b.there x (a.there x z); back = λ x z. a.back x (b.back x z) }

module _ {M : Type 0} {o : Ops M} (laws : Exact o) where
  -- the pivot's own column goes to zero
  gone : (a b : M) → (b ≡ o.nought → ⊥) → o.sub a (o.mul (o.div a b) b) ≡ o.nought
  gone a b some = ap (o.sub a) (laws.mul_comm (o.div a b) b ∙ laws.mul-div a b some) ∙ laws.sub_is a a ∙ laws.add_neg a

  untouched : (a t : M) → a ≡ o.sub a (o.mul t o.nought)
  untouched a t = simp (ring, laws)

  -- a swap keeps the stage
  exchanged-stage :
      (n i p : ℕ) (A B C : ℕ → ℕ → M) → i ≤ p → p < n → Exchanged n i p B C → Stage o n i A B → Stage o n i A C
  exchanged-stage n i p A B C hi hp e s = record {
    alike = alike_then o n A B C s.alike (exchanged_alike o n i p B C (omega arith) hp e);
    pivot = λ k h z. s.pivot k h (sym (e.others k k (omega arith) (omega arith) (omega arith)) ∙ z);
    zeros = λ k r h l m. elim (ℕ_discrete r i) [
      | yes a ↦ ap (λ (r : ℕ). C r k) a ∙ e.up k (omega arith) ∙ s.zeros k p h (omega arith) hp
      | no a ↦ elim (ℕ_discrete r p) [
        | yes b ↦ ap (λ (r : ℕ). C r k) b ∙ e.low k (omega arith) ∙ s.zeros k i h (omega arith) (omega arith)
        | no b ↦ e.others r k a b (omega arith) ∙ s.zeros k r h l m
      ]
    ];
  }

  -- clearing the rows below a pivot is one stage more
  reduced-stage :
      (n i : ℕ) (A B C : ℕ → ℕ → M) → i < n → (B i i ≡ o.nought → ⊥) → Reduced o n i (λ r. o.div (B r i) (B i i)) B C → Stage o n i A B → Stage o n (suc i) A C
  reduced-stage n i A B C hi some e s = record {
    alike = alike_then o n A B C s.alike (reduced_alike laws n i (λ r. o.div (B r i) (B i i)) B C hi e);
    pivot = λ k h z. elim (ℕ_discrete k i) [
      | yes a ↦ some (ap (λ (k : ℕ). B k k) (sym a) ∙ sym (e.upper k k (omega arith) (omega arith)) ∙ z)
      | no a ↦ s.pivot k (omega arith) (sym (e.upper k k (omega arith) (omega arith)) ∙ z)
    ];
    zeros = λ k r h l m. elim (ℕ_discrete k i) [
      | yes a ↦ ap (λ (k : ℕ). C r k) a ∙ e.lower r i (omega arith) m (omega arith) ∙ gone (B r i) (B i i) some
      | no a ↦ elim (dec_lt i r) [
        | yes b ↦ e.lower r k b m (omega arith)
            ∙ ap₂ (λ x y. o.sub x (o.mul (o.div (B r i) (B i i)) y)) (s.zeros k r (omega arith) l m) (s.zeros k i (omega arith) (omega arith) hi)
            ∙ sym (untouched o.nought (o.div (B r i) (B i i)))
        | no b ↦ e.upper r k (omega arith) (omega arith) ∙ s.zeros k r (omega arith) l m
      ]
    ];
  }

  exchange : (n p q : ℕ) (w v : List M) → n ≤ 15 → Swapped o n p q w (n + 1) v → Exchanged n p q (entries o w) (entries o v)
  exchange n p q w v hn s = record {
    up = λ k h. s.up k (omega arith) h;
    low = λ k h. s.low k (omega arith) h;
    others = λ r k a b h. s.others r k a b (omega arith);
  }

  -- with zeros before the pivot in its row, the whole rows below have lost their multiples
  reduce :
      (n p : ℕ) (w v : List M) → n ≤ 15 → ((k : ℕ) → k < p → entry o w p k ≡ o.nought) → Cleared o n p w n v →
      Reduced o n p (λ r. o.div (entry o w r p) (entry o w p p)) (entries o w) (entries o v)
  reduce n p w v hn zeros c = record {
    lower = λ r k a b h. elim (dec_lt k p) [
      | yes l ↦ c.before r k l (omega arith)
          ∙ untouched (entry o w r k) (o.div (entry o w r p) (entry o w p p))
          ∙ ap (λ y. o.sub (entry o w r k) (o.mul (o.div (entry o w r p) (entry o w p p)) y)) (sym (zeros k l))
      | no l ↦ c.lower r k a b (omega arith) h
    ];
    upper = λ r k a h. c.upper r k a (omega arith);
  }

  -- what may be divided by is not zero, and what may not is
  pub divides_some : (a : M) → may_divide o a ≡ true → a ≡ o.nought → ⊥
  divides_some a m z =
      let yes₁ : o.is_zero a ≡ true = ap o.is_zero z ∙ laws.zero_yes in
      let no₁ : o.is_zero a ≡ false = not-true (o.is_zero a) m in
      cc

  pub divides_none : (a : M) → may_divide o a ≡ false → a ≡ o.nought
  divides_none a m = laws.zero_only a (not-false (o.is_zero a) m)

  -- one column with its pivot in row p
  column-went :
      (n i p : ℕ) (w v : List M) → n ≤ 15 → 304 ≤ length w → i ≤ p → p < n → (entry o v p i ≡ o.nought → ⊥) → Went o n w i v →
      Went o n w (suc i) (clear o n i (swap_rows o n i p v))
  column-went n i p w v hn long hi hp some g =
      let size = g.long in
      let s = swapped o n i p v hn (omega arith) hp (omega arith) in
      let size₁ = s.long in
      let u = swap_rows o n i p v in
      let c = cleared o n i u hn (omega arith) (omega arith) in
      let st = exchanged-stage n i p (entries o w) (entries o v) (entries o u) hi hp (exchange n i p v u hn s) g.stage in
      record {
        long = c.long ∙ s.long ∙ g.long;
        stage = reduced-stage n i (entries o w) (entries o u) (entries o (clear o n i u)) (omega arith)
            (λ z. some (sym (s.up i (omega arith) (omega arith)) ∙ z))
            (reduce n i u (clear o n i u) hn (λ k h. st.zeros k i h h (omega arith)) c)
            st;
      }

  column-ends :
      (n : ℕ) (w : List M) → n ≤ 15 → 304 ≤ length w → (i : ℕ) (v : List M) → 0 ≤ i → i < n → Went o n w i v →
      Ends (Went o n w (suc i)) (Stopped o n w) (eliminate_column o n i v)
  column-ends n w hn long i v z hi g =
      let p = pivot_row o n i v in
      let f : First (λ r. may_divide o (entry o v r i)) (n - i) i p = first_is (λ r. may_divide o (entry o v r i)) (n - i) i in
      let from = f.from in
      let x = clear o n i (swap_rows o n i p v) in
      record {
        ended = λ e.
            let hp : p < n = ltb-true p n e in
            subst (Went o n w (suc i)) (sym (ap (λ (b : Bool). cond b x v) e))
            (column-went n i p w v hn long from hp (divides_some (entry o v p i) (f.passes (omega arith))) g);
        stopped = λ e.
            let hp : n ≤ p = ltb-false p n e in
            subst (Stopped o n w) (sym (ap (λ (b : Bool). cond b x v) e))
            (record { column = i; within = hi; went = g; empty = λ r a b. divides_none (entry o v r i) (f.before r a (omega arith)) });
      }

  alike_refl : (n : ℕ) (A : ℕ → ℕ → M) → Alike o n A A
  alike_refl n A = record { there = λ x z. z; back = λ x z. z }

  pub eliminate_ends : (n : ℕ) (w : List M) → n ≤ 15 → 304 ≤ length w → Ends (Went o n w n) (Stopped o n w) (eliminate o n w)
  eliminate_ends n w hn long =
      tries-keep (Went o n w) (Stopped o n w) (eliminate_column o n) n 0 n w (omega arith)
      (record { long = refl; stage = record { alike = alike_refl n (entries o w); pivot = λ k h. absurd (omega arith); zeros = λ k r h. absurd (omega arith) } })
      (column-ends n w hn long)
