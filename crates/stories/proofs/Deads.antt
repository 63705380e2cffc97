-- Dead lists: all zeros; a current of one around a loop of voltage sources; a potential of one on one side of a cut of current sources. Assumes nothing.
use Rattle.std.proofs.Common.{◌≡◌, ℕ, ◌<◌, ◌≤◌, Bool, true, false, cond, eqb, Some, None, Option, sym, refl, ap, ◌∙◌, subst, ap₂, arith}
use Rattle.std.proofs.lemmas.Bool.{both_ways, and_from, cond-true, cond-false, eq-eqb, ne_eqb}
use Rattle.arithmetic.specs.Ops.{Ops, Exact}
use Rattle.sheet.specs.declared.kind.Kind.{Kind}
use Rattle.sheet.specs.declared.kind.Kind.TheVariants.{Resistor, Inductor, Capacitor, VoltageSource, CurrentSource}
use Rattle.sheet.specs.declared.plan.Plan.{Plan}
use Rattle.sheet.specs.declared.row.Row.{Row}
use Rattle.graphs.specs.Graph.{Set, ◌∈◌, Spans, LoopAlong, Sign, plus, none, minus}
use Rattle.graphs.specs.Cuts.{just_one, loop_row, incidence}
use Rattle.graphs.specs.Greedy.{up_to, reached, LateCut}
use Rattle.graphs.specs.Groups.{times}
use Rattle.graphs.proofs.Joint.{theory}
use Rattle.graphs.proofs.Sets.{out}
use Rattle.graphs.proofs.Classes.{up_to_less, up_to_class, up_to_in}
use Rattle.graphs.proofs.Trails.{free_less}
use Rattle.graphs.proofs.Walks.{back}
use Rattle.linear.specs.Systems.{sum}
use Rattle.linear.proofs.Ring.{ring}
use Rattle.linear.proofs.Sums.{sum_same, sum_zero}
use Rattle.networks.specs.Networks.{kind_class, graph_of, placed, class_at}
use Rattle.topology.specs.Trees.{tree_set, loose, late}
use Rattle.networks.proofs.Networks.{placed_below}
use Rattle.topology.proofs.Theory.{best, is_tree}
use Rattle.stories.specs.Networks.{kind_at, is_voltage, is_current}
use Rattle.stories.specs.Laws.{signed, leaving, Law, stilled, Dead, AllZero}
use Rattle.stories.proofs.Networks.{kind_placed, kind_class_lem, the_kind, voltages_are}
use Rattle.stories.proofs.Trees.{voltage_is, loose_source, late_source}
use Rattle.stories.proofs.Terms.{weight, sign, weight_in, weight_out, additive, group_sum, signed_mul, times-mul}

module _ {M : Type 0} {o : Ops M} (laws : Exact o) where
  nothing : (v : M) → o.nought ≡ o.mul v o.nought
  nothing v = simp (ring, laws)

  unchanged : (v h : M) → o.mul v (o.sub o.nought o.nought) ≡ o.mul h o.nought
  unchanged v h = simp (ring, laws)

  -- a stilled branch without current but at a voltage source, without voltage but at a current source
  still_law : (h : M) (f : Option Kind) (r : Row M) (i u : M) → (is_voltage f ≡ false → i ≡ o.nought) → (is_current f ≡ false → u ≡ o.nought) → Law o h f (stilled o f r) i u
  still_law h None r i u a b = tt
  still_law h (Some Resistor) r i u a b = b refl ∙ nothing r.value ∙ ap (o.mul r.value) (sym (a refl))
  still_law h (Some Inductor) r i u a b = ap (λ i. o.mul r.value (o.sub i o.nought)) (a refl) ∙ unchanged r.value h ∙ ap (o.mul h) (sym (b refl))
  still_law h (Some Capacitor) r i u a b = ap (o.mul h) (a refl) ∙ sym (unchanged r.value h) ∙ ap (λ u. o.mul r.value (o.sub u o.nought)) (sym (b refl))
  still_law h (Some VoltageSource) r i u a b = b refl
  still_law h (Some CurrentSource) r i u a b = a refl

  signed_zero : (s : Sign) → signed o s o.nought ≡ o.nought
  signed_zero plus = refl
  signed_zero none = refl
  signed_zero minus = simp (ring, laws)

  cond_zero : (b : Bool) (x : M) → x ≡ o.nought → cond b x o.nought ≡ o.nought
  cond_zero true x e = e
  cond_zero false x e = refl

  level : o.nought ≡ o.sub o.nought o.nought
  level = simp (ring, laws)

  still_nodes : (p : Plan) (x : ℕ) → leaving o p (λ k. o.nought) x ≡ o.nought
  still_nodes p x = sum_zero laws 32 _ (λ k l. cond_zero (placed p k) _ (signed_zero (incidence (graph_of p) x k)))

  module _ (p : Plan) (at : ℕ → Row M) (h : M) where
    pub zero_dead : Dead o p at h (λ k. o.nought) (λ k. o.nought)
    zero_dead = record {
      nodes = λ x l. still_nodes p x;
      figures = (λ x. o.nought, λ k m. level);
      branches = λ k m. still_law h (kind_at p k) (at k) o.nought o.nought (λ e. refl) (λ e. refl);
    }

    -- refusal 12
    module _ (k : ℕ) (met : k ∈ loose p) where
      source : kind_at p k ≡ Some VoltageSource
      source = (loose_source p k met).0

      dropped : tree_set p k ≡ false
      dropped = (loose_source p k met).1

      kept_voltage : (j : ℕ) → j ∈ up_to (class_at p) 0 (tree_set p) → is_voltage (kind_at p j) ≡ true
      kept_voltage j m = sym (voltages_are p j) ∙ up_to_in (class_at p) 0 (placed p) j ((is_tree p).placed j (up_to_less (class_at p) 0 (tree_set p) j m)) (up_to_class (class_at p) 0 (tree_set p) j m)

      closes : LoopAlong (graph_of p) (up_to (class_at p) (class_at p k) (tree_set p)) k
      unfolding tree_set
      closes = (best p).refused k (kind_placed p k VoltageSource source) dropped

      spans : Spans (graph_of p) (up_to (class_at p) 0 (tree_set p)) k
      spans = back (subst (λ c. LoopAlong (graph_of p) (up_to (class_at p) c (tree_set p)) k) (kind_class_lem p k VoltageSource source) closes).back

      loop_dropped : up_to (class_at p) 0 (tree_set p) k ≡ false
      loop_dropped = out _ (λ e. both_ways (tree_set p k) dropped (up_to_less (class_at p) 0 (tree_set p) k e))

      abbrev way : ℕ → Sign
      way j = loop_row (graph_of p) (up_to (class_at p) 0 (tree_set p)) 32 k j

      way_off : (j : ℕ) → is_voltage (kind_at p j) ≡ false → loop_row (graph_of p) (up_to (class_at p) 0 (tree_set p)) 32 k j ≡ none
      unfolding loop_row
      way_off j e =
          cond-false (eqb j k) _ _ (ne_eqb j k (λ d. both_ways (is_voltage (kind_at p j)) e (ap (λ j. is_voltage (kind_at p j)) d ∙ ap is_voltage source)))
          ∙ cond-false _ _ _ (out _ (λ m. both_ways (is_voltage (kind_at p j)) e (kept_voltage j m)))

      way-own : loop_row (graph_of p) (up_to (class_at p) 0 (tree_set p)) 32 k k ≡ plus
      unfolding loop_row
      way-own = cond-true (eqb k k) _ _ (eq-eqb k k refl)

      around : (x : ℕ) → sum o 32 (λ j. times (additive laws) (way j) (times (additive laws) (incidence (graph_of p) x j) o.one)) ≡ o.nought
      unfolding additive
      around x =
          sym (group_sum laws _ 32)
          ∙ ((theory M).laws (additive laws) (graph_of p) (up_to (class_at p) 0 (tree_set p)) 32 16
          (λ j m. placed_below p j ((is_tree p).placed j (up_to_less (class_at p) 0 (tree_set p) j m)))
          (free_less (graph_of p) (up_to (class_at p) 0 (tree_set p)) (tree_set p) (up_to_less (class_at p) 0 (tree_set p)) (is_tree p).free)
          ).loop_incidence o.one x k (placed_below p k (kind_placed p k VoltageSource source)) loop_dropped spans

      turn_round : (s r : Sign) → signed o s (signed o r o.one) ≡ times (additive laws) r (times (additive laws) s o.one)
      turn_round s r =
          signed_mul laws s _ ∙ ap (o.mul (sign o s)) (signed_mul laws r o.one) ∙ swap (sign o s) (sign o r)
          ∙ sym (times-mul laws r _ ∙ ap (o.mul (sign o r)) (times-mul laws s o.one))
        where
          swap : (a b : M) → o.mul a (o.mul b o.one) ≡ o.mul b (o.mul a o.one)
          swap a b = simp (ring, laws)

      placed_term : (x j : ℕ) → cond (placed p j) (signed o (incidence (graph_of p) x j) (signed o (way j) o.one)) o.nought ≡ times (additive laws) (way j) (times (additive laws) (incidence (graph_of p) x j) o.one)
      unfolding additive
      placed_term x j = go (placed p j) refl
        where
          empty : placed p j ≡ false → is_voltage (kind_at p j) ≡ false
          empty e = out _ (λ v. both_ways (placed p j) e (kind_placed p j VoltageSource (voltage_is (kind_at p j) v)))

          go : (b : Bool) → placed p j ≡ b → cond b (signed o (incidence (graph_of p) x j) (signed o (way j) o.one)) o.nought ≡ times (additive laws) (way j) (times (additive laws) (incidence (graph_of p) x j) o.one)
          go true e = turn_round (incidence (graph_of p) x j) (way j)
          go false e = sym (ap (λ s. times (additive laws) s (times (additive laws) (incidence (graph_of p) x j) o.one)) (way_off j (empty e)))

      pub loop_dead : Dead o p at h (λ j. signed o (loop_row (graph_of p) (up_to (class_at p) 0 (tree_set p)) 32 k j) o.one) (λ j. o.nought)
      loop_dead = record {
        nodes = λ x l. sum_same o 32 _ _ (λ j b. placed_term x j) ∙ around x;
        figures = (λ x. o.nought, λ j m. level);
        branches = λ j m. still_law h (kind_at p j) (at j) _ o.nought (λ e. ap (λ s. signed o s o.one) (way_off j e)) (λ e. refl);
      }

      pub loop_some : ((i u : ℕ → M) → Dead o p at h i u → AllZero o p i u) → ⊥
      loop_some only = laws.zero_one (sym (ap (λ s. signed o s o.one) (sym way-own) ∙ (only _ _ loop_dead k (kind_placed p k VoltageSource source)).0))

    -- refusal 13
    module _ (k : ℕ) (met : k ∈ late p) where
      drives : kind_at p k ≡ Some CurrentSource
      drives = (late_source p k met).0

      shown : LateCut (graph_of p) (class_at p) 3 (placed p) 32 k
      unfolding tree_set
      shown = (best p).late 3 k (late_source p k met).1 (subst (λ c. 3 < c) (sym (kind_class_lem p k CurrentSource drives)) (omega arith))

      abbrev N : Set
      N = reached (graph_of p) (class_at p) 3 (placed p) 32 k

      abbrev fall : ℕ → M
      fall j = o.sub (weight o (N ((graph_of p).tail j))) (weight o (N ((graph_of p).head j)))

      gone : (x : M) → o.sub x x ≡ o.nought
      gone x = simp (ring, laws)

      even : (a b : Bool) → (just_one a b ≡ true → ⊥) → o.sub (weight o a) (weight o b) ≡ o.nought
      even true true f = gone (weight o true)
      even true false f = absurd (f refl)
      even false true f = absurd (f refl)
      even false false f = gone (weight o false)

      low : (x : Kind) → is_current (Some x) ≡ false → kind_class x ≤ 3
      low Resistor e = omega arith
      low Inductor e = omega arith
      low Capacitor e = omega arith
      low VoltageSource e = omega arith
      low CurrentSource e = absurd (both_ways true e refl)

      flat : (j : ℕ) → j ∈ placed p → is_current (kind_at p j) ≡ false → fall j ≡ o.nought
      flat j m e = even _ _ (λ f.
          let x = the_kind p j m in
          let above = shown.above j (and_from (placed p j) _ m f) in
          let small = low x.0 (sym (ap is_current x.1) ∙ e) in
          let same = kind_class_lem p j x.0 x.1 in
          omega arith)

      pub cut_dead : Dead o p at h (λ j. o.nought) (λ j. o.sub (weight o (reached (graph_of p) (class_at p) 3 (placed p) 32 k ((graph_of p).tail j))) (weight o (reached (graph_of p) (class_at p) 3 (placed p) 32 k ((graph_of p).head j))))
      cut_dead = record {
        nodes = λ x l. still_nodes p x;
        figures = (λ x. weight o (N x), λ j m. refl);
        branches = λ j m. still_law h (kind_at p j) (at j) o.nought _ (λ e. refl) (flat j m);
      }

      pub cut_some : ((i u : ℕ → M) → Dead o p at h i u → AllZero o p i u) → ⊥
      cut_some only = laws.zero_one (sym (sym (ap₂ o.sub (weight_in o _ shown.inside) (weight_out o _ shown.outside) ∙ whole) ∙ (only _ _ cut_dead k (kind_placed p k CurrentSource drives)).1))
        where
          whole : o.sub o.one o.nought ≡ o.one
          whole = simp (ring, laws)
