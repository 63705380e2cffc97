-- A list that obeys the laws is what the step works out from its unknown voltages. Assumes nothing.
use Rattle.std.proofs.Common.{◌≡◌, ℕ, Bool, true, false, not, ◌&&◌, is_some, Some, None, Option, sym, refl, ap, ◌∙◌}
use Rattle.std.proofs.lemmas.Bool.{both_ways, and_parts, and_from}
use Rattle.arithmetic.specs.Ops.{Ops, Exact}
use Rattle.sheet.specs.declared.kind.Kind.{Kind}
use Rattle.sheet.specs.declared.kind.Kind.TheVariants.{Resistor, Inductor, Capacitor, VoltageSource, CurrentSource}
use Rattle.sheet.specs.declared.plan.Plan.{Plan}
use Rattle.sheet.specs.declared.row.Row.{Row}
use Rattle.graphs.specs.Graph.{Set, ◌∈◌, count, Tree}
use Rattle.linear.proofs.Ring.{ring, zero-add}
use Rattle.linear.proofs.Sums.{sum_same}
use Rattle.networks.specs.Networks.{graph_of, placed}
use Rattle.stories.specs.Networks.{kind_at, is_voltage}
use Rattle.stories.specs.Companions.{conductance, feed}
use Rattle.stories.specs.Steps.{parts_of, voltage_of, current_of}
use Rattle.stories.proofs.Networks.{placed_kind}
use Rattle.stories.proofs.Rows.{weight_cong}
use Rattle.stories.proofs.Balances.{row_of, tree_sum}
use Rattle.stories.proofs.Treewise.{Affine, Treewise, voltage_affine}
use Rattle.stories.proofs.Found.{cut_links, voltage_fixed, voltage_unknown, voltage_link, found_affine, current_fixed}

module _ {M : Type 0} {o : Ops M} (laws : Exact o) (p : Plan) (T : Set) (tree : Tree (graph_of p) (placed p) T) (volts : (k : ℕ) → is_voltage (kind_at p k) ≡ true → k ∈ T) (h : M) (at : ℕ → Row M) where
  -- two lists that obey the law of a branch with one voltage have one current, but at a voltage source
  same_current : (f : Option Kind) (r : Row M) (i u j v : M) → Affine o h f r i u → Affine o h f r j v → u ≡ v → (f ≡ None → ⊥) → is_voltage f ≡ false → i ≡ j
  same_current None r i u j v a b e n l = absurd (n refl)
  same_current (Some Resistor) r i u j v a b e n l = a ∙ ap (λ u. o.add (o.mul (conductance o h (Some Resistor) r) u) (feed o h (Some Resistor) r)) e ∙ sym b
  same_current (Some Inductor) r i u j v a b e n l = a ∙ ap (λ u. o.add (o.mul (conductance o h (Some Inductor) r) u) (feed o h (Some Inductor) r)) e ∙ sym b
  same_current (Some Capacitor) r i u j v a b e n l = a ∙ ap (λ u. o.add (o.mul (conductance o h (Some Capacitor) r) u) (feed o h (Some Capacitor) r)) e ∙ sym b
  same_current (Some VoltageSource) r i u j v a b e n l = absurd (both_ways true l refl)
  same_current (Some CurrentSource) r i u j v a b e n l = a ∙ sym b

  module _ (x i u : ℕ → M) (w : Treewise o p T h at i u) (met : (r : ℕ) → r ∈ (parts_of o p T h at).unknown → u r ≡ x (count (parts_of o p T h at).unknown r)) where
    on_tree : (r : ℕ) → r ∈ T → u r ≡ voltage_of o (parts_of o p T h at) x r
    unfolding parts_of
    on_tree r m = go (is_voltage (kind_at p r)) refl
      where
        go : (b : Bool) → is_voltage (kind_at p r) ≡ b → u r ≡ voltage_of o (parts_of o p T h at) x r
        go true e = voltage_affine laws h (kind_at p r) (at r) (i r) (u r) (w.affine r) e ∙ sym (voltage_fixed laws p T tree volts h at x r e)
        go false e =
            let inside : r ∈ (parts_of o p T h at).unknown = and_from (T r) (not (is_voltage (kind_at p r))) m (ap not e) in
            met r inside ∙ sym (voltage_unknown laws p T tree volts h at x r inside)

    pub same_voltage : (k : ℕ) → k ∈ placed p → u k ≡ voltage_of o (parts_of o p T h at) x k
    same_voltage k m =
        tree_sum laws p T tree u w.links k m
        ∙ sum_same o 32 _ _ (λ r l. weight_cong laws (T r) _ _ (λ n. ap (o.mul (row_of o p T r k)) (on_tree r n)))
        ∙ sym (tree_sum laws p T tree (voltage_of o (parts_of o p T h at) x) (λ k m l. voltage_link laws p T tree volts h at x k l) k m)

    others : (k : ℕ) → k ∈ placed p → is_voltage (kind_at p k) ≡ false → i k ≡ current_of o (parts_of o p T h at) x k
    others k m e = same_current (kind_at p k) (at k) (i k) (u k) (current_of o (parts_of o p T h at) x k) (voltage_of o (parts_of o p T h at) x k) (w.affine k) (found_affine laws p T tree volts h at x k) (same_voltage k m)
        (λ n. both_ways (placed p k) (placed_kind p k ∙ ap is_some n) m) e

    pub same_flow : (k : ℕ) → k ∈ placed p → i k ≡ current_of o (parts_of o p T h at) x k
    same_flow k m = go (is_voltage (kind_at p k)) refl
      where
        away : (a b : M) → o.add a b ≡ o.nought → a ≡ o.neg b
        away a b e = back a b ∙ ap (λ z. o.add z (o.neg b)) e ∙ zero-add laws (o.neg b)
          where
            back : (a b : M) → a ≡ o.add (o.add a b) (o.neg b)
            back a b = simp (ring, laws)

        link : (j : ℕ) → (placed p j && not (T j)) ≡ true → i j ≡ current_of o (parts_of o p T h at) x j
        link j n = let is = and_parts (placed p j) (not (T j)) n in others j is.0 (off (is_voltage (kind_at p j)) refl is.1)
          where
            off : (b : Bool) → is_voltage (kind_at p j) ≡ b → not (T j) ≡ true → is_voltage (kind_at p j) ≡ false
            off true e l = absurd (both_ways (not (T j)) (ap not (volts j e)) l)
            off false e l = e

        go : (b : Bool) → is_voltage (kind_at p k) ≡ b → i k ≡ current_of o (parts_of o p T h at) x k
        go false e = others k m e
        go true e =
            away (i k) _ (sym (cut_links laws p T tree volts h at i k (volts k e)) ∙ w.cuts k (volts k e))
            ∙ ap o.neg (sum_same o 32 _ _ (λ j l. weight_cong laws (placed p j && not (T j)) _ _ (λ n. ap (o.mul (row_of o p T k j)) (link j n))))
            ∙ sym (current_fixed laws p T tree volts h at x k e)
