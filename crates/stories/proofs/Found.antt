-- The currents and voltages that a step works out from the found values, and that they obey the laws if these solve the system. Assumes nothing.
use Rattle.std.proofs.Common.{◌≡◌, ℕ, Bool, true, false, cond, not, ◌&&◌, Some, None, Option, sym, refl, ap, ◌∙◌}
use Rattle.std.proofs.lemmas.Bool.{both_ways, and_parts, and_from, not-true, cond-true, cond-false}
use Rattle.arithmetic.specs.Ops.{Ops, Exact}
use Rattle.sheet.specs.declared.kind.Kind.{Kind}
use Rattle.sheet.specs.declared.kind.Kind.TheVariants.{Resistor, Inductor, Capacitor, VoltageSource, CurrentSource}
use Rattle.sheet.specs.declared.plan.Plan.{Plan}
use Rattle.sheet.specs.declared.row.Row.{Row}
use Rattle.graphs.specs.Graph.{Set, ◌∈◌, count, Tree}
use Rattle.graphs.specs.Cuts.{turned}
use Rattle.linear.specs.Systems.{sum}
use Rattle.linear.proofs.Ring.{ring, zero-add}
use Rattle.linear.proofs.Sums.{sum_same, sum-add}
use Rattle.networks.specs.Networks.{graph_of, placed}
use Rattle.stories.specs.Networks.{kind_at, is_voltage, is_passive}
use Rattle.stories.specs.Companions.{conductance, feed}
use Rattle.stories.specs.Assembly.{through, taken, entry_of, right_of}
use Rattle.stories.specs.Steps.{parts_of, tree_voltage, voltage_of, flow_of, current_of}
use Rattle.stories.proofs.Terms.{weight, sign, sign-turned, taken-sum, sum_neg}
use Rattle.stories.proofs.Rows.{weight_cong}
use Rattle.stories.proofs.Balances.{row_of, cut-own}
use Rattle.stories.proofs.Treewise.{Affine, Treewise, cut_row_lem}

module _ {M : Type 0} {o : Ops M} (laws : Exact o) (p : Plan) (T : Set) (tree : Tree (graph_of p) (placed p) T) (volts : (k : ℕ) → is_voltage (kind_at p k) ≡ true → k ∈ T) (h : M) (at : ℕ → Row M) where
  -- placed branches are tree branches and links
  halves : (b t : Bool) (x : M) → (t ≡ true → b ≡ true) → o.mul (weight o b) x ≡ o.add (o.mul (weight o t) x) (o.mul (weight o (b && not t)) x)
  unfolding weight
  halves true true x f = first x
    where
      first : (x : M) → o.mul o.one x ≡ o.add (o.mul o.one x) (o.mul o.nought x)
      first x = simp (ring, laws)
  halves true false x f = second x
    where
      second : (x : M) → o.mul o.one x ≡ o.add (o.mul o.nought x) (o.mul o.one x)
      second x = simp (ring, laws)
  halves false true x f = absurd (both_ways false refl (f refl))
  halves false false x f = neither x
    where
      neither : (x : M) → o.mul o.nought x ≡ o.add (o.mul o.nought x) (o.mul o.nought x)
      neither x = simp (ring, laws)

  -- over a tree branch's cut: its own current and the links'
  pub cut_links : (i : ℕ → M) (t : ℕ) → t ∈ T → sum o 32 (λ k. o.mul (weight o (placed p k)) (o.mul (row_of o p T t k) (i k))) ≡ o.add (i t) (sum o 32 (λ k. o.mul (weight o (placed p k && not (T k))) (o.mul (row_of o p T t k) (i k))))
  cut_links i t m =
      sum_same o 32 _ _ (λ k l. halves (placed p k) (T k) (o.mul (row_of o p T t k) (i k)) (tree.placed k)) ∙ sum-add laws 32 _ _
      ∙ ap (λ z. o.add z (sum o 32 (λ k. o.mul (weight o (placed p k && not (T k))) (o.mul (row_of o p T t k) (i k))))) (cut-own laws p T tree i t m)

  module _ (x : ℕ → M) where
    pub voltage_tree : (k : ℕ) → k ∈ T → voltage_of o (parts_of o p T h at) x k ≡ tree_voltage (parts_of o p T h at) x k
    unfolding voltage_of parts_of
    voltage_tree k m = cond-true (T k) _ _ m

    pub voltage_fixed : (k : ℕ) → is_voltage (kind_at p k) ≡ true → voltage_of o (parts_of o p T h at) x k ≡ (at k).value
    unfolding parts_of
    voltage_fixed k v = voltage_tree k (volts k v) ∙ cond-true (is_voltage (kind_at p k)) _ _ v

    pub voltage_unknown : (k : ℕ) → k ∈ (parts_of o p T h at).unknown → voltage_of o (parts_of o p T h at) x k ≡ x (count (parts_of o p T h at).unknown k)
    unfolding parts_of
    voltage_unknown k m =
        let is = and_parts (T k) (not (is_voltage (kind_at p k))) m in
        voltage_tree k is.0 ∙ cond-false (is_voltage (kind_at p k)) _ _ (not-true (is_voltage (kind_at p k)) is.1)

    pub voltage_link : (k : ℕ) → T k ≡ false → voltage_of o (parts_of o p T h at) x k ≡ sum o 32 (λ r. o.mul (weight o (T r)) (o.mul (row_of o p T r k) (voltage_of o (parts_of o p T h at) x r)))
    unfolding voltage_of parts_of
    voltage_link k l = first k l ∙ taken-sum laws T (λ t. (parts_of o p T h at).row t k) (tree_voltage (parts_of o p T h at) x) 32 o.nought ∙ zero-add laws _ ∙ same k
      where
        first : (k : ℕ) → T k ≡ false → voltage_of o (parts_of o p T h at) x k ≡ through (λ t a. cond (T t) (taken o ((parts_of o p T h at).row t k) (tree_voltage (parts_of o p T h at) x t) a) a) 32 o.nought
        first k l = cond-false (T k) _ _ l

        same : (k : ℕ) → sum o 32 (λ r. o.mul (weight o (T r)) (o.mul (sign o ((parts_of o p T h at).row r k)) (tree_voltage (parts_of o p T h at) x r))) ≡ sum o 32 (λ r. o.mul (weight o (T r)) (o.mul (row_of o p T r k) (voltage_of o (parts_of o p T h at) x r)))
        same k = sum_same o 32 _ _ (λ r b. weight_cong laws (T r) _ _ (λ m. ap (o.mul (row_of o p T r k)) (sym (voltage_tree r m))))

    -- the current of a branch by its kind
    current_by : (k : ℕ) (f : Option Kind) → kind_at p k ≡ f → is_voltage f ≡ false → current_of o (parts_of o p T h at) x k ≡ cond (is_passive f) (o.add (o.mul (conductance o h f (at k)) (voltage_of o (parts_of o p T h at) x k)) (feed o h f (at k))) (feed o h f (at k))
    unfolding current_of flow_of parts_of
    current_by k f e n =
        cond-false (is_voltage (kind_at p k)) _ _ (ap is_voltage e ∙ n)
        ∙ ap (λ f. cond (is_passive f) (o.add (o.mul (conductance o h f (at k)) (voltage_of o (parts_of o p T h at) x k)) (feed o h f (at k))) (feed o h f (at k))) e

    pub found_affine : (k : ℕ) → Affine o h (kind_at p k) (at k) (current_of o (parts_of o p T h at) x k) (voltage_of o (parts_of o p T h at) x k)
    found_affine k = go (kind_at p k) refl
      where
        go : (f : Option Kind) → kind_at p k ≡ f → Affine o h f (at k) (current_of o (parts_of o p T h at) x k) (voltage_of o (parts_of o p T h at) x k)
        go None e = tt
        go (Some Resistor) e = current_by k (Some Resistor) e refl
        go (Some Inductor) e = current_by k (Some Inductor) e refl
        go (Some Capacitor) e = current_by k (Some Capacitor) e refl
        go (Some VoltageSource) e = voltage_fixed k (ap is_voltage e)
        go (Some CurrentSource) e = current_by k (Some CurrentSource) e refl

    -- a voltage source's current is what the links of its cut leave
    pub current_fixed : (k : ℕ) → is_voltage (kind_at p k) ≡ true → current_of o (parts_of o p T h at) x k ≡ o.neg (sum o 32 (λ j. o.mul (weight o (placed p j && not (T j))) (o.mul (row_of o p T k j) (current_of o (parts_of o p T h at) x j))))
    unfolding current_of parts_of
    current_fixed k v =
        cond-true (is_voltage (kind_at p k)) _ _ v
        ∙ taken-sum laws (λ j. placed p j && not (T j)) (λ j. turned ((parts_of o p T h at).row k j)) (flow_of o (parts_of o p T h at) x) 32 o.nought ∙ zero-add laws _
        ∙ sum_same o 32 _ _ (λ j b. ap (λ z. o.mul (weight o (placed p j && not (T j))) (o.mul z (flow_of o (parts_of o p T h at) x j))) (sign-turned laws ((parts_of o p T h at).row k j)) ∙ out _ _ _
        ∙ ap o.neg (weight_cong laws (placed p j && not (T j)) _ _ (λ m. ap (o.mul (row_of o p T k j)) (flow j m))))
        ∙ sum_neg laws 32 _
      where
        out : (w a y : M) → o.mul w (o.mul (o.neg a) y) ≡ o.neg (o.mul w (o.mul a y))
        out w a y = simp (ring, laws)

        flow : (j : ℕ) → (placed p j && not (T j)) ≡ true → flow_of o (parts_of o p T h at) x j ≡ current_of o (parts_of o p T h at) x j
        flow j m = sym (cond-false (is_voltage (kind_at p j)) _ _ (off (is_voltage (kind_at p j)) refl))
          where
            off : (b : Bool) → is_voltage (kind_at p j) ≡ b → is_voltage (kind_at p j) ≡ false
            off true e = absurd (both_ways (T j) (not-true (T j) (and_parts (placed p j) (not (T j)) m).1) (volts j e))
            off false e = e

    -- if the voltages meet every row, the list obeys the laws
    pub found_treewise : ((t : ℕ) → t ∈ (parts_of o p T h at).unknown →
        sum o 32 (λ r. o.mul (weight o ((parts_of o p T h at).unknown r)) (o.mul (entry_of o (parts_of o p T h at) t r) (voltage_of o (parts_of o p T h at) x r))) ≡ right_of o (parts_of o p T h at) t) →
        Treewise o p T h at (current_of o (parts_of o p T h at) x) (voltage_of o (parts_of o p T h at) x)
    unfolding parts_of
    found_treewise met = record {
      cuts = λ t m. go t m (is_voltage (kind_at p t)) refl;
      links = λ k m l. voltage_link k l;
      affine = found_affine;
    }
      where
        inside : (t : ℕ) → t ∈ T → is_voltage (kind_at p t) ≡ false → t ∈ (parts_of o p T h at).unknown
        inside t m e = and_from (T t) (not (is_voltage (kind_at p t))) m (ap not e)

        cancels : (a b : M) → a ≡ o.neg b → o.add a b ≡ o.nought
        cancels a b e = ap (λ a. o.add a b) e ∙ simp (ring, laws)

        go : (t : ℕ) → t ∈ T → (b : Bool) → is_voltage (kind_at p t) ≡ b → sum o 32 (λ k. o.mul (weight o (placed p k)) (o.mul (row_of o p T t k) (current_of o (parts_of o p T h at) x k))) ≡ o.nought
        go t m true e = cut_links _ t m ∙ cancels _ _ (current_fixed t e)
        go t m false e = (cut_row_lem laws p T tree h at volts (current_of o (parts_of o p T h at) x) (voltage_of o (parts_of o p T h at) x) (λ k n l. voltage_link k l) found_affine t (inside t m e)).1 (met t (inside t m e))
