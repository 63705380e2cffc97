-- A system that finds all its pivots gives the one live list, and only zeros are dead; one that does not has a dead list that is not zero. Assumes nothing.
use Rattle.std.proofs.Common.{◌≡◌, ℕ, ◌<◌, ◌≤◌, true, false, length, sym, refl, ap, ◌∙◌, arith}
use Rattle.std.proofs.lemmas.List.FromFn.{get_or-map-range_with_len}
use Rattle.arithmetic.specs.Ops.{Ops, Exact}
use Rattle.sheet.specs.declared.plan.Plan.{Plan}
use Rattle.sheet.specs.declared.row.Row.{Row}
use Rattle.graphs.specs.Graph.{Set, ◌∈◌, count, Tree}
use Rattle.linear.specs.Elimination.{entry}
use Rattle.linear.specs.Systems.{sum, member, Solution, Singular, found}
use Rattle.linear.proofs.Sums.{sum_same}
use Rattle.linear.proofs.Theorem.{linear_systems}
use Rattle.networks.specs.Networks.{graph_of, placed}
use Rattle.stories.specs.Networks.{kind_at, is_voltage, is_passive}
use Rattle.stories.specs.Assembly.{entry_of, right_of, size, assembled}
use Rattle.stories.specs.Steps.{parts_of, solving, figure_of, voltage_of, current_of}
use Rattle.stories.specs.Laws.{Live, Dead, AllZero}
use Rattle.stories.proofs.Terms.{weight}
use Rattle.stories.proofs.Counts.{count_at, count-lt}
use Rattle.stories.proofs.Areas.{assembled_long, list_of, list_of_at}
use Rattle.stories.proofs.Treewise.{Treewise, treewise_live, live_treewise, cut_row_lem}
use Rattle.stories.proofs.Found.{voltage_unknown, found_treewise}
use Rattle.stories.proofs.Unique.{same_voltage, same_flow}
use Rattle.stories.proofs.Systems.{still_rows, few, unknown_tree, unknown_below, rows_solve, solves_rows, rows_kernel, kernel_rows, still_value, still_entry, still_right}
use Rattle.stories.proofs.Deads.{zero_dead}

module _ {M : Type 0} {o : Ops M} (laws : Exact o) (p : Plan) (T : Set) (tree : Tree (graph_of p) (placed p) T) (volts : (k : ℕ) → is_voltage (kind_at p k) ≡ true → k ∈ T)
    (h : M) (nh : h ≡ o.nought → ⊥) (at : ℕ → Row M) (nv : (k : ℕ) → is_passive (kind_at p k) ≡ true → (at k).value ≡ o.nought → ⊥) where
  long : 304 ≤ length (assembled o (parts_of o p T h at))
  long = let e = assembled_long o (parts_of o p T h at) (few laws p T tree h at) in omega arith

  -- the rows of a live list
  live_rows : (i u : ℕ → M) → Treewise o p T h at i u → (t : ℕ) → t ∈ (parts_of o p T h at).unknown →
      sum o 32 (λ r. o.mul (weight o ((parts_of o p T h at).unknown r)) (o.mul (entry_of o (parts_of o p T h at) t r) (u r))) ≡ right_of o (parts_of o p T h at) t
  live_rows i u w t m = (cut_row_lem laws p T tree h at volts i u w.links w.affine t m).0 (w.cuts t (unknown_tree laws p T tree h at t m))

  -- a list by branches as a list by places
  listed : (u : ℕ → M) (r : ℕ) → r ∈ (parts_of o p T h at).unknown → member o (list_of o (parts_of o p T h at).unknown u) (count (parts_of o p T h at).unknown r) ≡ u r
  listed u r m = list_of_at o (parts_of o p T h at).unknown u r (few laws p T tree h at) (unknown_below laws p T tree h at r m) m

  place : (r : ℕ) → r ∈ (parts_of o p T h at).unknown → count (parts_of o p T h at).unknown r < size (parts_of o p T h at)
  place r m = count-lt (parts_of o p T h at).unknown r 32 m (unknown_below laws p T tree h at r m)

  module _ (ok : (solving o (parts_of o p T h at)).ok ≡ true) where
    solution : Solution o (size (parts_of o p T h at)) (assembled o (parts_of o p T h at)) (found o (size (parts_of o p T h at)) (solving o (parts_of o p T h at)).left)
    unfolding solving
    solution = (linear_systems laws).pivots (size (parts_of o p T h at)) (assembled o (parts_of o p T h at)) (few laws p T tree h at) long ok

    found_at : (d : ℕ) → d < size (parts_of o p T h at) → member o (found o (size (parts_of o p T h at)) (solving o (parts_of o p T h at)).left) d ≡ figure_of o (parts_of o p T h at) d
    found_at d l = get_or-map-range_with_len (λ r. entry o (solving o (parts_of o p T h at)).left r (size (parts_of o p T h at))) 0 (size (parts_of o p T h at)) d d o.nought l (omega arith)

    ok_treewise : Treewise o p T h at (current_of o (parts_of o p T h at) (figure_of o (parts_of o p T h at))) (voltage_of o (parts_of o p T h at) (figure_of o (parts_of o p T h at)))
    ok_treewise = found_treewise laws p T tree volts h at (figure_of o (parts_of o p T h at))
        (solves_rows laws p T tree h at (found o (size (parts_of o p T h at)) (solving o (parts_of o p T h at)).left) _
        (λ r m. found_at _ (place r m) ∙ sym (voltage_unknown laws p T tree volts h at (figure_of o (parts_of o p T h at)) r m)) solution.solves)

    pub ok_live : Live o p at h (current_of o (parts_of o p T h at) (figure_of o (parts_of o p T h at))) (voltage_of o (parts_of o p T h at) (figure_of o (parts_of o p T h at)))
    ok_live = treewise_live laws p T tree h at nh nv _ _ ok_treewise

    pub ok_only : (i u : ℕ → M) → Live o p at h i u → (k : ℕ) → k ∈ placed p → (i k ≡ current_of o (parts_of o p T h at) (figure_of o (parts_of o p T h at)) k) × (u k ≡ voltage_of o (parts_of o p T h at) (figure_of o (parts_of o p T h at)) k)
    ok_only i u l k m =
        let w = live_treewise laws p T tree h at nh nv i u l in
        let solves = rows_solve laws p T tree h at (list_of o (parts_of o p T h at).unknown u) u (listed u) (live_rows i u w) in
        let met : (r : ℕ) → r ∈ (parts_of o p T h at).unknown → u r ≡ figure_of o (parts_of o p T h at) (count (parts_of o p T h at).unknown r) = λ r n. sym (listed u r n) ∙ solution.only (list_of o (parts_of o p T h at).unknown u) solves (count (parts_of o p T h at).unknown r) (place r n) ∙ found_at _ (place r n) in
        (same_flow laws p T tree volts h at (figure_of o (parts_of o p T h at)) i u w met k m, same_voltage laws p T tree volts h at (figure_of o (parts_of o p T h at)) i u w met k m)

-- dead lists are the live lists of stilled rows
module _ {M : Type 0} {o : Ops M} (laws : Exact o) (p : Plan) (T : Set) (tree : Tree (graph_of p) (placed p) T) (volts : (k : ℕ) → is_voltage (kind_at p k) ≡ true → k ∈ T)
    (h : M) (nh : h ≡ o.nought → ⊥) (at : ℕ → Row M) (nv : (k : ℕ) → is_passive (kind_at p k) ≡ true → (at k).value ≡ o.nought → ⊥) where
  still_nv : (k : ℕ) → is_passive (kind_at p k) ≡ true → (still_rows o p at k).value ≡ o.nought → ⊥
  still_nv k e z = nv k e (sym (still_value laws p T tree h at (kind_at p k) (at k) e) ∙ z)

  still_sum : (u : ℕ → M) (t : ℕ) →
      sum o 32 (λ r. o.mul (weight o ((parts_of o p T h (still_rows o p at)).unknown r)) (o.mul (entry_of o (parts_of o p T h (still_rows o p at)) t r) (u r)))
      ≡ sum o 32 (λ r. o.mul (weight o ((parts_of o p T h at).unknown r)) (o.mul (entry_of o (parts_of o p T h at) t r) (u r)))
  unfolding parts_of
  still_sum u t = sum_same o 32 _ _ (λ r l. ap (λ z. o.mul (weight o ((parts_of o p T h at).unknown r)) (o.mul z (u r))) (still_entry laws p T tree h at t r))

  still_unknown : (r : ℕ) → (parts_of o p T h at).unknown r ≡ (parts_of o p T h (still_rows o p at)).unknown r
  unfolding parts_of
  still_unknown r = refl

  dead_treewise : (i u : ℕ → M) → Dead o p at h i u → Treewise o p T h (still_rows o p at) i u
  dead_treewise i u d = live_treewise laws p T tree h (still_rows o p at) nh still_nv i u d

  dead_rows : (i u : ℕ → M) → Dead o p at h i u → (t : ℕ) → t ∈ (parts_of o p T h at).unknown →
      sum o 32 (λ r. o.mul (weight o ((parts_of o p T h at).unknown r)) (o.mul (entry_of o (parts_of o p T h at) t r) (u r))) ≡ o.nought
  dead_rows i u d t m =
      sym (still_sum u t) ∙ live_rows laws p T tree volts h nh (still_rows o p at) still_nv i u (dead_treewise i u d) t (sym (still_unknown t) ∙ m) ∙ still_right laws p T tree h at t

  pub ok_dead : (solving o (parts_of o p T h at)).ok ≡ true → (i u : ℕ → M) → Dead o p at h i u → AllZero o p i u
  unfolding solving parts_of
  ok_dead ok i u d k m = (
    same_flow laws p T tree volts h (still_rows o p at) (λ n. o.nought) i u (dead_treewise i u d) (still i u d) k m
        ∙ sym (same_flow laws p T tree volts h (still_rows o p at) (λ n. o.nought) (λ n. o.nought) (λ n. o.nought) zero (λ r n. refl) k m),
    same_voltage laws p T tree volts h (still_rows o p at) (λ n. o.nought) i u (dead_treewise i u d) (still i u d) k m
        ∙ sym (same_voltage laws p T tree volts h (still_rows o p at) (λ n. o.nought) (λ n. o.nought) (λ n. o.nought) zero (λ r n. refl) k m),
  )
    where
      zero : Treewise o p T h (still_rows o p at) (λ n. o.nought) (λ n. o.nought)
      zero = dead_treewise (λ n. o.nought) (λ n. o.nought) (zero_dead laws p at h)

      still : (i u : ℕ → M) → Dead o p at h i u → (r : ℕ) → r ∈ (parts_of o p T h at).unknown → u r ≡ o.nought
      still i u d r n =
          sym (listed laws p T tree volts h nh at nv u r n)
          ∙ (linear_systems laws).regular (size (parts_of o p T h at)) (assembled o (parts_of o p T h at)) (few laws p T tree h at) (long laws p T tree volts h nh at nv) ok
          (list_of o (parts_of o p T h at).unknown u)
          (rows_kernel laws p T tree h at (list_of o (parts_of o p T h at).unknown u) u (listed laws p T tree volts h nh at nv u) (dead_rows i u d))
          (count (parts_of o p T h at).unknown r) (place laws p T tree volts h nh at nv r n)

  pub stuck : (solving o (parts_of o p T h at)).ok ≡ false → ((i u : ℕ → M) → Dead o p at h i u → AllZero o p i u) → ⊥
  unfolding solving parts_of
  stuck no_pivot only =
      go ((linear_systems laws).none (size (parts_of o p T h at)) (assembled o (parts_of o p T h at)) (few laws p T tree h at) (long laws p T tree volts h nh at nv) no_pivot)
    where
      go : Singular o (size (parts_of o p T h at)) (assembled o (parts_of o p T h at)) → ⊥
      go s =
          let x : ℕ → M = member o s.list in
          let is : (r : ℕ) → r ∈ (parts_of o p T h at).unknown → member o s.list (count (parts_of o p T h at).unknown r) ≡ voltage_of o (parts_of o p T h (still_rows o p at)) x r = λ r n. sym (voltage_unknown laws p T tree volts h (still_rows o p at) x r n) in
          let met : (t : ℕ) → t ∈ (parts_of o p T h at).unknown → sum o 32 (λ r. o.mul (weight o ((parts_of o p T h (still_rows o p at)).unknown r)) (o.mul (entry_of o (parts_of o p T h (still_rows o p at)) t r) (voltage_of o (parts_of o p T h (still_rows o p at)) x r))) ≡ right_of o (parts_of o p T h (still_rows o p at)) t = λ t m. still_sum _ t ∙ kernel_rows laws p T tree h at s.list _ is s.kernel t m ∙ sym (still_right laws p T tree h at t) in
          let dead = treewise_live laws p T tree h (still_rows o p at) nh still_nv _ _ (found_treewise laws p T tree volts h (still_rows o p at) x met) in
          let f = count_at (parts_of o p T h at).unknown 32 s.at s.within in
          s.some (ap (member o s.list) (sym f.1.1.1) ∙ is f.0 f.1.1.0 ∙ (only _ _ dead f.0 (tree.placed f.0 (unknown_tree laws p T tree h at f.0 f.1.1.0))).1)
