-- A list is live exactly if it obeys the laws as a tree sees them: cuts, links, and current = conductance × voltage + feed. Assumes nothing.
use Rattle.std.proofs.Common.{◌≡◌, ℕ, Bool, true, false, not, ◌&&◌, ◌||◌, ◌↔◌, is_some, Some, None, Option, sym, refl, ap, ◌∙◌, subst}
use Rattle.std.proofs.lemmas.Bool.{both_ways, and_parts, not-true}
use Rattle.arithmetic.specs.Ops.{Ops, Exact}
use Rattle.sheet.specs.declared.kind.Kind.{Kind}
use Rattle.sheet.specs.declared.kind.Kind.TheVariants.{Resistor, Inductor, Capacitor, VoltageSource, CurrentSource}
use Rattle.sheet.specs.declared.plan.Plan.{Plan}
use Rattle.sheet.specs.declared.row.Row.{Row}
use Rattle.graphs.specs.Graph.{Set, ◌∈◌, Tree}
use Rattle.linear.specs.Systems.{sum}
use Rattle.linear.proofs.Ring.{ring}
use Rattle.networks.specs.Networks.{graph_of, placed}
use Rattle.stories.specs.Networks.{kind_at, is_voltage, is_current, is_passive}
use Rattle.stories.specs.Companions.{conductance, feed}
use Rattle.stories.specs.Assembly.{entry_of, right_of}
use Rattle.stories.specs.Steps.{parts_of}
use Rattle.stories.specs.Laws.{Law, Live}
use Rattle.stories.proofs.Networks.{placed_kind, kind_placed}
use Rattle.stories.proofs.Companions.{companion}
use Rattle.stories.proofs.Terms.{weight, sign-none}
use Rattle.stories.proofs.Rows.{weight_cong, row-law}
use Rattle.stories.proofs.Balances.{row_of, rows, nodes_cuts, figures_links, tree_sum}

-- the law of a branch with its current given by conductance and feed
abbrev pub Affine : {M : Type 0} → Ops M → M → Option Kind → Row M → M → M → Type 0
Affine o h None r i u = Unit {0}
Affine o h (Some Resistor) r i u = i ≡ o.add (o.mul (conductance o h (Some Resistor) r) u) (feed o h (Some Resistor) r)
Affine o h (Some Inductor) r i u = i ≡ o.add (o.mul (conductance o h (Some Inductor) r) u) (feed o h (Some Inductor) r)
Affine o h (Some Capacitor) r i u = i ≡ o.add (o.mul (conductance o h (Some Capacitor) r) u) (feed o h (Some Capacitor) r)
Affine o h (Some VoltageSource) r i u = u ≡ r.value
Affine o h (Some CurrentSource) r i u = i ≡ r.value

pub record Treewise {M : Type 0} (o : Ops M) (p : Plan) (T : Set) (h : M) (at : ℕ → Row M) (i u : ℕ → M) : Type 0 where
  pub cuts : (t : ℕ) → t ∈ T → sum o 32 (λ k. o.mul (weight o (placed p k)) (o.mul (row_of o p T t k) (i k))) ≡ o.nought
  pub links : (k : ℕ) → k ∈ placed p → T k ≡ false → u k ≡ sum o 32 (λ r. o.mul (weight o (T r)) (o.mul (row_of o p T r k) (u r)))
  pub affine : (k : ℕ) → Affine o h (kind_at p k) (at k) (i k) (u k)

module _ {M : Type 0} {o : Ops M} (laws : Exact o) where
  law_affine : (h : M) (f : Option Kind) (r : Row M) (i u : M) → (h ≡ o.nought → ⊥) → (is_passive f ≡ true → r.value ≡ o.nought → ⊥) → Law o h f r i u ↔ Affine o h f r i u
  law_affine h None r i u nh nv = (λ e. e, λ e. e)
  law_affine h (Some Resistor) r i u nh nv = companion laws h Resistor r i u refl (nv refl) nh
  law_affine h (Some Inductor) r i u nh nv = companion laws h Inductor r i u refl (nv refl) nh
  law_affine h (Some Capacitor) r i u nh nv = companion laws h Capacitor r i u refl (nv refl) nh
  law_affine h (Some VoltageSource) r i u nh nv = (λ e. e, λ e. e)
  law_affine h (Some CurrentSource) r i u nh nv = (λ e. e, λ e. e)

  spread : (q g u s : M) → o.mul o.one (o.mul q (o.add (o.mul g u) s)) ≡ o.add (o.mul o.one (o.mul q (o.mul g u))) (o.mul o.one (o.mul q s))
  spread q g u s = simp (ring, laws)

  -- the term of one branch in the currents over a cut
  term : (h : M) (f : Option Kind) (r : Row M) (q i u : M) → Affine o h f r i u → (is_voltage f ≡ true → q ≡ o.nought) →
      o.mul (weight o (is_some f)) (o.mul q i) ≡ o.add (o.mul (weight o (is_passive f)) (o.mul q (o.mul (conductance o h f r) u))) (o.mul (weight o (is_passive f || is_current f)) (o.mul q (feed o h f r)))
  unfolding weight
  term h None r q i u a z = none q i o.nought o.nought
    where
      none : (q i g s : M) → o.mul o.nought (o.mul q i) ≡ o.add (o.mul o.nought (o.mul q (o.mul g u))) (o.mul o.nought (o.mul q s))
      none q i g s = simp (ring, laws)
  term h (Some Resistor) r q i u a z = ap (λ i. o.mul o.one (o.mul q i)) a ∙ spread q (conductance o h (Some Resistor) r) u (feed o h (Some Resistor) r)
  term h (Some Inductor) r q i u a z = ap (λ i. o.mul o.one (o.mul q i)) a ∙ spread q (conductance o h (Some Inductor) r) u (feed o h (Some Inductor) r)
  term h (Some Capacitor) r q i u a z = ap (λ i. o.mul o.one (o.mul q i)) a ∙ spread q (conductance o h (Some Capacitor) r) u (feed o h (Some Capacitor) r)
  term h (Some VoltageSource) r q i u a z = ap (λ q. o.mul o.one (o.mul q i)) (z refl) ∙ gone i (o.mul q (o.mul o.nought u)) (o.mul q o.nought)
    where
      gone : (i x y : M) → o.mul o.one (o.mul o.nought i) ≡ o.add (o.mul o.nought x) (o.mul o.nought y)
      gone i x y = simp (ring, laws)
  term h (Some CurrentSource) r q i u a z = ap (λ i. o.mul o.one (o.mul q i)) a ∙ one q r.value (o.mul q (o.mul o.nought u))
    where
      one : (q v x : M) → o.mul o.one (o.mul q v) ≡ o.add (o.mul o.nought x) (o.mul o.one (o.mul q v))
      one q v x = simp (ring, laws)

  -- the tree's voltages are the unknown ones and the fixed ones
  parts : (t v : Bool) (u e : M) → (v ≡ true → t ≡ true) → (v ≡ true → u ≡ e) → o.mul (weight o t) u ≡ o.add (o.mul (weight o (t && not v)) u) (o.mul (weight o v) e)
  unfolding weight
  parts true true u e f is = ap (o.mul o.one) (is refl) ∙ after u e
    where
      after : (u e : M) → o.mul o.one e ≡ o.add (o.mul o.nought u) (o.mul o.one e)
      after u e = simp (ring, laws)
  parts true false u e f is = before u e
    where
      before : (u e : M) → o.mul o.one u ≡ o.add (o.mul o.one u) (o.mul o.nought e)
      before u e = simp (ring, laws)
  parts false true u e f is = absurd (both_ways false refl (f refl))
  parts false false u e f is = neither u e
    where
      neither : (u e : M) → o.mul o.nought u ≡ o.add (o.mul o.nought u) (o.mul o.nought e)
      neither u e = simp (ring, laws)

  pub voltage_affine : (h : M) (f : Option Kind) (r : Row M) (i u : M) → Affine o h f r i u → is_voltage f ≡ true → u ≡ r.value
  voltage_affine h None r i u a e = absurd (both_ways false refl e)
  voltage_affine h (Some Resistor) r i u a e = absurd (both_ways false refl e)
  voltage_affine h (Some Inductor) r i u a e = absurd (both_ways false refl e)
  voltage_affine h (Some Capacitor) r i u a e = absurd (both_ways false refl e)
  voltage_affine h (Some VoltageSource) r i u a e = a
  voltage_affine h (Some CurrentSource) r i u a e = absurd (both_ways false refl e)

  passive_placed : (p : Plan) (k : ℕ) → is_passive (kind_at p k) ≡ true → k ∈ placed p
  passive_placed p k e = placed_kind p k ∙ go (kind_at p k) e
    where
      go : (f : Option Kind) → is_passive f ≡ true → is_some f ≡ true
      go None e = absurd (both_ways false refl e)
      go (Some x) e = refl

  module _ (p : Plan) (T : Set) (tree : Tree (graph_of p) (placed p) T) (h : M) (at : ℕ → Row M) where
    pub treewise_live : (h ≡ o.nought → ⊥) → ((k : ℕ) → is_passive (kind_at p k) ≡ true → (at k).value ≡ o.nought → ⊥) → (i u : ℕ → M) → Treewise o p T h at i u → Live o p at h i u
    treewise_live nh nv i u w = record {
      nodes = (nodes_cuts laws p T tree i).1 w.cuts;
      figures = (figures_links laws p T tree u).1 w.links;
      branches = λ k m. (law_affine h (kind_at p k) (at k) (i k) (u k) nh (nv k)).1 (w.affine k);
    }

    pub live_treewise : (h ≡ o.nought → ⊥) → ((k : ℕ) → is_passive (kind_at p k) ≡ true → (at k).value ≡ o.nought → ⊥) → (i u : ℕ → M) → Live o p at h i u → Treewise o p T h at i u
    live_treewise nh nv i u l = record {
      cuts = (nodes_cuts laws p T tree i).0 l.nodes;
      links = (figures_links laws p T tree u).0 l.figures;
      affine = λ k. go k (kind_at p k) refl;
    }
      where
        go : (k : ℕ) (f : Option Kind) → kind_at p k ≡ f → Affine o h (kind_at p k) (at k) (i k) (u k)
        go k None e = subst (λ f. Affine o h f (at k) (i k) (u k)) (sym e) tt
        go k (Some x) e = (law_affine h (kind_at p k) (at k) (i k) (u k) nh (nv k)).0 (l.branches k (kind_placed p k x e))

    module _ (volts : (k : ℕ) → is_voltage (kind_at p k) ≡ true → k ∈ T) (i u : ℕ → M)
        (links : (k : ℕ) → k ∈ placed p → T k ≡ false → u k ≡ sum o 32 (λ r. o.mul (weight o (T r)) (o.mul (row_of o p T r k) (u r))))
        (affine : (k : ℕ) → Affine o h (kind_at p k) (at k) (i k) (u k)) where
      -- over the cut of an unknown branch the currents sum to zero exactly if the voltages meet its row
      pub cut_row_lem : (t : ℕ) → t ∈ (parts_of o p T h at).unknown →
          (sum o 32 (λ k. o.mul (weight o (placed p k)) (o.mul (row_of o p T t k) (i k))) ≡ o.nought)
          ↔ (sum o 32 (λ r. o.mul (weight o ((parts_of o p T h at).unknown r)) (o.mul (entry_of o (parts_of o p T h at) t r) (u r))) ≡ right_of o (parts_of o p T h at) t)
      unfolding parts_of
      cut_row_lem t m =
          let is = and_parts (T t) (not (is_voltage (kind_at p t))) m in
          let no_volts : is_voltage (kind_at p t) ≡ false = not-true (is_voltage (kind_at p t)) is.1 in
          row-law laws (parts_of o p T h at) t (placed p) i u
          (λ k l. ap (λ b. o.mul (weight o b) (o.mul (row_of o p T t k) (i k))) (placed_kind p k) ∙ term h (kind_at p k) (at k) (row_of o p T t k) (i k) (u k) (affine k)
          (λ v. sign-none o _ ((rows laws p T tree).others t k (volts k v) (λ e. both_ways (is_voltage (kind_at p t)) no_volts (ap (λ j. is_voltage (kind_at p j)) (sym e) ∙ v)))))
          (λ k l. weight_cong laws (is_passive (kind_at p k)) _ _ (λ e. tree_sum laws p T tree u links k (passive_placed p k e)))
          (λ r l. parts (T r) (is_voltage (kind_at p r)) (u r) (at r).value (volts r) (λ v. voltage_affine h (kind_at p r) (at r) (i r) (u r) (affine r) v))
