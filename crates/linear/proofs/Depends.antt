-- Solving rests on nothing but the system: where two lists hold the same system, so do they after every step. Assumes nothing.
use Rattle.std.proofs.Common.{◌≡◌, ℕ, ◌+◌, ◌-◌, ◌<◌, ◌≤◌, Bool, true, false, cond, ltb, List, length, set, sym, refl, ap, ◌∙◌, subst, ap₂, arith, length-set, ltb-true}
use native.Mathlib.Decide.{ℕ_discrete}
use Rattle.std.proofs.lemmas.List.FromFn.{length-map-range_with_len, get_or-map-range_with_len, fill_by_all}
use Rattle.arithmetic.specs.Ops.{Ops, may_divide}
use Rattle.linear.specs.Elimination.{cell, entry, lose_entry, lose_row, clear, swap_entry, swap_rows, pivot_row, eliminate_column, eliminate, lose_found, back_row, back, solved}
use Rattle.linear.specs.Systems.{found}
use Rattle.linear.specs.Inside.{SameSystem, Inside}
use Rattle.linear.proofs.Twice.{steps-both, down-both, Both, tries-both, first-both}
use Rattle.linear.proofs.Entries.{entry_same, entry_row, entry_column}
use Rattle.linear.proofs.Outside.{solved_stays}

module _ {M : Type 0} (o : Ops M) (n : ℕ) (hn : n ≤ 15) where
  record Same (w v : List M) : Type 0 where
    long₁ : 304 ≤ length w
    long₂ : 304 ≤ length v
    same : SameSystem o n w v

  write_same : (w v : List M) (r c : ℕ) (x y : M) → r < n → c ≤ n → x ≡ y → Same w v → Same (set w (cell r c) x) (set v (cell r c) y)
  write_same w v r c x y hr hc e h =
      let l₁ = h.long₁ in
      let l₂ = h.long₂ in
      let s₁ : length (set w (cell r c) x) ≡ length w = length-set w (cell r c) x in
      let s₂ : length (set v (cell r c) y) ≡ length v = length-set v (cell r c) y in
      record {
        long₁ = omega arith;
        long₂ = omega arith;
        same = λ q k a b. elim (ℕ_discrete q r) [
          | no i ↦ entry_row o w r c q k x i (omega arith) (omega arith) ∙ h.same q k a b ∙ sym (entry_row o v r c q k y i (omega arith) (omega arith))
          | yes i ↦ elim (ℕ_discrete k c) [
            | no j ↦ entry_column o w r c q k x j (omega arith) (omega arith) ∙ h.same q k a b ∙ sym (entry_column o v r c q k y j (omega arith) (omega arith))
            | yes j ↦ ap₂ (λ (q k : ℕ). entry o (set w (cell r c) x) q k) i j
                ∙ entry_same o w r c x (omega arith) (omega arith) l₁
                ∙ e
                ∙ sym (entry_same o v r c y (omega arith) (omega arith) l₂)
                ∙ sym (ap₂ (λ (q k : ℕ). entry o (set v (cell r c) y) q k) i j)
          ]
        ];
      }

  lose_same : (p r : ℕ) (w v : List M) → p < n → r < n → Same w v → Same (lose_row o n p r w) (lose_row o n p r v)
  lose_same p r w v hp hr h =
      let t = o.div (entry o w r p) (entry o w p p) in
      let u = o.div (entry o v r p) (entry o v p p) in
      let e : t ≡ u = ap₂ o.div (h.same r p hr (omega arith)) (h.same p p hp (omega arith)) in
      steps-both Same (lose_entry o p r t) (lose_entry o p r u) (n + 1 - p) p (n + 1) w v (omega arith) h
      (λ j a b l m s. write_same a b r j _ _ hr (omega arith) (ap₂ o.sub (s.same r j hr (omega arith)) (ap₂ o.mul e (s.same p j hp (omega arith)))) s)

  clear_same : (p : ℕ) (w v : List M) → p < n → Same w v → Same (clear o n p w) (clear o n p v)
  clear_same p w v hp h =
      steps-both Same (lose_row o n p) (lose_row o n p) (n - (p + 1)) (p + 1) n w v (omega arith) h (λ j a b l m s. lose_same p j a b hp m s)

  swap_same : (p q : ℕ) (w v : List M) → p < n → q < n → Same w v → Same (swap_rows o n p q w) (swap_rows o n p q v)
  swap_same p q w v hp hq h =
      steps-both Same (swap_entry o p q) (swap_entry o p q) (n + 1) 0 (n + 1) w v (omega arith) h
      (λ j a b l m s. write_same _ _ q j _ _ hq (omega arith) (s.same p j hp (omega arith)) (write_same a b p j _ _ hp (omega arith) (s.same q j hq (omega arith)) s))

  column_same : (i : ℕ) (w v : List M) → i < n → Same w v → Both Same (eliminate_column o n i w) (eliminate_column o n i v)
  column_same i w v hi h =
      subst (λ (p : ℕ). Both Same (eliminate_column o n i w) (record { ok = ltb p n; left = cond (ltb p n) (clear o n i (swap_rows o n i p v)) v })) pivots
      (record { ok = refl; left = part (ltb (pivot_row o n i w) n) refl })
    where
      pivots : pivot_row o n i w ≡ pivot_row o n i v
      pivots =
          first-both (λ r. may_divide o (entry o w r i)) (λ r. may_divide o (entry o v r i)) (n - i) i n (omega arith)
          (λ k a b. ap (may_divide o) (h.same k i b (omega arith)))

      part :
          (b : Bool) → ltb (pivot_row o n i w) n ≡ b →
          Same (cond b (clear o n i (swap_rows o n i (pivot_row o n i w) w)) w) (cond b (clear o n i (swap_rows o n i (pivot_row o n i w) v)) v)
      part true x = clear_same i _ _ hi (swap_same i (pivot_row o n i w) w v hi (ltb-true (pivot_row o n i w) n x) h)
      part false x = h

  eliminate_same : (w v : List M) → Same w v → Both Same (eliminate o n w) (eliminate o n v)
  eliminate_same w v h = tries-both Same (eliminate_column o n) n 0 n w v (omega arith) h (λ j a b l m s. column_same j a b m s)

  row_same : (r : ℕ) (w v : List M) → r < n → Same w v → Same (back_row o n r w) (back_row o n r v)
  row_same r w v hr h =
      let s = steps-both Same (lose_found o n r) (lose_found o n r) (n - (r + 1)) (r + 1) n w v (omega arith) h
      (λ j a b l m s. write_same a b r n _ _ hr (omega arith) (ap₂ o.sub (s.same r n hr (omega arith)) (ap₂ o.mul (s.same r j hr (omega arith)) (s.same j n m (omega arith)))) s)
      in
      write_same _ _ r n _ _ hr (omega arith) (ap₂ o.div (s.same r n hr (omega arith)) (s.same r r hr (omega arith))) s

  back_same : (w v : List M) → Same w v → Same (back o n w) (back o n v)
  back_same w v h = down-both Same (back_row o n) n w v h (λ j a b l s. row_same j a b l s)

  solved_same : (w v : List M) → Same w v → Both Same (solved o n w) (solved o n v)
  solved_same w v h = record { ok = e.ok; left = go (eliminate o n w).ok (eliminate o n v).ok e.ok }
    where
      e : Both Same (eliminate o n w) (eliminate o n v)
      e = eliminate_same w v h

      go :
          (b d : Bool) → b ≡ d →
          Same (cond b (back o n (eliminate o n w).left) (eliminate o n w).left) (cond d (back o n (eliminate o n v).left) (eliminate o n v).left)
      go true true x = back_same _ _ e.left
      go true false x = cc
      go false true x = cc
      go false false x = e.left

  found_same : (w v : List M) → SameSystem o n w v → found o n w ≡ found o n v
  found_same w v h =
      fill_by_all (λ r. entry o v r n) (found o n w) n o.nought (length-map-range_with_len (λ r. entry o w r n) 0 n)
      (λ k l. get_or-map-range_with_len (λ r. entry o w r n) 0 n k k o.nought l (omega arith) ∙ h k n l (omega arith))

pub inside : {M : Type 0} (o : Ops M) → Inside o
inside o = record {
  writes = λ n w k out. solved_stays o n k out w;
  answers = λ n w v hn l₁ l₂ h. (solved_same o n hn w v (record { long₁ = l₁; long₂ = l₂; same = h })).ok;
  reads = λ n w v hn l₁ l₂ h. (solved_same o n hn w v (record { long₁ = l₁; long₂ = l₂; same = h })).left.same;
  finds = λ n w v hn l₁ l₂ h. found_same o n hn _ _ (solved_same o n hn w v (record { long₁ = l₁; long₂ = l₂; same = h })).left.same;
}
