-- Solving leaves every place alone that is not of the system. Assumes nothing.
use Rattle.std.proofs.Common.{◌≡◌, ℕ, ◌+◌, ◌-◌, ◌<◌, ◌≤◌, Bool, true, false, cond, ltb, List, refl, ◌∙◌, arith, get_or-set_other, ltb-true}
use Rattle.arithmetic.specs.Ops.{Ops}
use Rattle.linear.specs.Elimination.{cell, entry, lose_entry, lose_row, clear, swap_entry, swap_rows, pivot_row, eliminate_column, eliminate, lose_found, back_row, back, solved}
use Rattle.linear.specs.Systems.{member}
use Rattle.linear.specs.Inside.{Outside}
use Rattle.linear.proofs.Loops.{steps-keep, down-keep, Ends, tries-keep}

module _ {M : Type 0} (o : Ops M) (n k : ℕ) (out : Outside n k) where
  -- place k holds in v what it held in w
  abbrev Stays : List M → List M → Type 0
  Stays w v = member o v k ≡ member o w k

  write_stays : (w v : List M) (r c : ℕ) (x : M) → r < n → c ≤ n → Stays w v → Stays w (lib.ListN.set v (cell r c) x)
  write_stays w v r c x hr hc h = get_or-set_other v (cell r c) k x o.nought (out r c hr hc) ∙ h

  lose_stays : (p r : ℕ) (w v : List M) → p < n → r < n → Stays w v → Stays w (lose_row o n p r v)
  lose_stays p r w v hp hr h =
      steps-keep (λ j u. Stays w u) (lose_entry o p r (o.div (entry o v r p) (entry o v p p))) (n + 1 - p) p (n + 1) v (omega arith) h
      (λ j u a b s. write_stays w u r j _ hr (omega arith) s)

  clear_stays : (p : ℕ) (w v : List M) → p < n → Stays w v → Stays w (clear o n p v)
  clear_stays p w v hp h =
      steps-keep (λ j u. Stays w u) (lose_row o n p) (n - (p + 1)) (p + 1) n v (omega arith) h (λ j u a b s. lose_stays p j w u hp b s)

  swap_stays : (p q : ℕ) (w v : List M) → p < n → q < n → Stays w v → Stays w (swap_rows o n p q v)
  swap_stays p q w v hp hq h =
      steps-keep (λ j u. Stays w u) (swap_entry o p q) (n + 1) 0 (n + 1) v (omega arith) h
      (λ j u a b s. write_stays w _ q j _ hq (omega arith) (write_stays w u p j _ hp (omega arith) s))

  column_stays : (w : List M) (i : ℕ) (v : List M) → 0 ≤ i → i < n → Stays w v → Stays w (eliminate_column o n i v).left
  column_stays w i v z hi h = go (ltb (pivot_row o n i v) n) refl
    where
      go : (b : Bool) → ltb (pivot_row o n i v) n ≡ b → Stays w (cond b (clear o n i (swap_rows o n i (pivot_row o n i v) v)) v)
      go true e = clear_stays i w _ hi (swap_stays i (pivot_row o n i v) w v hi (ltb-true (pivot_row o n i v) n e) h)
      go false e = h

  eliminate_stays : (w : List M) → Stays w (eliminate o n w).left
  eliminate_stays w =
      both (eliminate o n w).ok refl
      (tries-keep (λ j u. Stays w u) (Stays w) (eliminate_column o n) n 0 n w (omega arith) refl
      (λ i v z hi h. record { ended = λ _. column_stays w i v z hi h; stopped = λ _. column_stays w i v z hi h }))
    where
      both : (b : Bool) → (eliminate o n w).ok ≡ b → Ends (Stays w) (Stays w) (eliminate o n w) → Stays w (eliminate o n w).left
      both true e h = h.ended e
      both false e h = h.stopped e

  row_stays : (r : ℕ) (w v : List M) → r < n → Stays w v → Stays w (back_row o n r v)
  row_stays r w v hr h =
      write_stays w _ r n _ hr (omega arith)
      (steps-keep (λ j u. Stays w u) (lose_found o n r) (n - (r + 1)) (r + 1) n v (omega arith) h (λ j u a b s. write_stays w u r n _ hr (omega arith) s))

  back_stays : (w v : List M) → Stays w v → Stays w (back o n v)
  back_stays w v h = down-keep (λ j u. Stays w u) (back_row o n) n v h (λ j u hj s. row_stays j w u hj s)

  pub solved_stays : (w : List M) → member o (solved o n w).left k ≡ member o w k
  solved_stays w = go (eliminate o n w).ok
    where
      go : (b : Bool) → Stays w (cond b (back o n (eliminate o n w).left) (eliminate o n w).left)
      go true = back_stays w _ (eliminate_stays w)
      go false = eliminate_stays w
