-- The system of a plan and a tree: a list that obeys the laws solves it, and its kernel lists are those of the dead lists. Assumes nothing.
use Rattle.std.proofs.Common.{◌≡◌, ℕ, ◌<◌, ◌≤◌, Bool, true, false, cond, not, ◌&&◌, List, Some, None, Option, sym, refl, ap, ◌∙◌, subst, ap₂, arith}
use Rattle.std.proofs.lemmas.Bool.{both_ways, and_parts}
use Rattle.arithmetic.specs.Ops.{Ops, Exact}
use Rattle.sheet.specs.declared.kind.Kind.{Kind}
use Rattle.sheet.specs.declared.kind.Kind.TheVariants.{Resistor, Inductor, Capacitor, VoltageSource, CurrentSource}
use Rattle.sheet.specs.declared.plan.Plan.{Plan}
use Rattle.sheet.specs.declared.row.Row.{Row}
use Rattle.sheet.specs.Calls.{Sheet}
use Rattle.graphs.specs.Graph.{Set, ◌∈◌, count, Tree}
use Rattle.graphs.specs.Cuts.{cut_row}
use Rattle.graphs.proofs.Sets.{count-le}
use Rattle.linear.specs.Elimination.{entry}
use Rattle.linear.specs.Systems.{sum, member, image, Solves, InKernel}
use Rattle.linear.proofs.Ring.{ring}
use Rattle.linear.proofs.Sums.{sum_same, sum_zero}
use Rattle.networks.specs.Networks.{graph_of, placed}
use Rattle.topology.specs.Trees.{tree_set}
use Rattle.networks.proofs.Networks.{placed_below}
use Rattle.topology.proofs.Theory.{is_tree}
use Rattle.stories.specs.Networks.{kind_at, is_voltage, is_passive}
use Rattle.stories.specs.Companions.{conductance, feed}
use Rattle.stories.specs.Assembly.{through, taken, agree, entry_of, right_of, size, assembled}
use Rattle.stories.specs.Steps.{row_at, parts_of, step_parts}
use Rattle.stories.specs.Laws.{stilled}
use Rattle.stories.proofs.Networks.{kept_few}
use Rattle.stories.proofs.Terms.{weight}
use Rattle.stories.proofs.Counts.{count_at, count-lt}
use Rattle.stories.proofs.Areas.{assembled-right}
use Rattle.stories.proofs.Rows.{weight_cong, image-sum, right-sum}

-- the rows of stilled branches
abbrev pub still_rows : {M : Type 0} → Ops M → Plan → (ℕ → Row M) → ℕ → Row M
still_rows o p at k = stilled o (kind_at p k) (at k)

-- at most 15 unknowns
pub few_unknown : {M : Type 0} (o : Ops M) (p : Plan) (T : Set) → Tree (graph_of p) (placed p) T → (h : M) (at : ℕ → Row M) → size (parts_of o p T h at) ≤ 15
unfolding parts_of
few_unknown o p T tree h at =
    let a = count-le (λ k. T k && not (is_voltage (kind_at p k))) T 32 (λ k l m. (and_parts (T k) (not (is_voltage (kind_at p k))) m).0) in
    let b = kept_few p T tree in
    omega arith

pub step_few : {M : Type 0} (o : Ops M) (h : M) (s : Sheet M) → size (step_parts o h s) ≤ 15
step_few o h s = few_unknown o s.plan (tree_set s.plan) (is_tree s.plan) h (row_at o s.rows)

module _ {M : Type 0} {o : Ops M} (laws : Exact o) (p : Plan) (T : Set) (tree : Tree (graph_of p) (placed p) T) (h : M) (at : ℕ → Row M) where
  pub few : size (parts_of o p T h at) ≤ 15
  few = few_unknown o p T tree h at

  pub unknown_tree : (k : ℕ) → k ∈ (parts_of o p T h at).unknown → k ∈ T
  unfolding parts_of
  unknown_tree k m = (and_parts (T k) (not (is_voltage (kind_at p k))) m).0

  pub unknown_below : (k : ℕ) → k ∈ (parts_of o p T h at).unknown → k < 32
  unknown_below k m = placed_below p k (tree.placed k (unknown_tree k m))

  module _ (x : List M) (u : ℕ → M) (is : (r : ℕ) → r ∈ (parts_of o p T h at).unknown → member o x (count (parts_of o p T h at).unknown r) ≡ u r) where
    pub image_row : (t : ℕ) → t ∈ (parts_of o p T h at).unknown → image o (size (parts_of o p T h at)) (assembled o (parts_of o p T h at)) x (count (parts_of o p T h at).unknown t) ≡ sum o 32 (λ r. o.mul (weight o ((parts_of o p T h at).unknown r)) (o.mul (entry_of o (parts_of o p T h at) t r) (u r)))
    image_row t m =
        image-sum laws (parts_of o p T h at) t few (unknown_below t m) m x
        ∙ sum_same o 32 _ _ (λ r l. weight_cong laws ((parts_of o p T h at).unknown r) _ _ (λ n. ap (o.mul (entry_of o (parts_of o p T h at) t r)) (is r n)))

    pub rows_solve : ((t : ℕ) → t ∈ (parts_of o p T h at).unknown → sum o 32 (λ r. o.mul (weight o ((parts_of o p T h at).unknown r)) (o.mul (entry_of o (parts_of o p T h at) t r) (u r))) ≡ right_of o (parts_of o p T h at) t) → Solves o (size (parts_of o p T h at)) (assembled o (parts_of o p T h at)) x
    rows_solve met d l =
        let f = count_at (parts_of o p T h at).unknown 32 d l in
        subst (λ d. image o (size (parts_of o p T h at)) (assembled o (parts_of o p T h at)) x d ≡ entry o (assembled o (parts_of o p T h at)) d (size (parts_of o p T h at))) f.1.1.1
        (image_row f.0 f.1.1.0 ∙ met f.0 f.1.1.0 ∙ sym (assembled-right o (parts_of o p T h at) few f.0 f.1.0 f.1.1.0))

    pub solves_rows : Solves o (size (parts_of o p T h at)) (assembled o (parts_of o p T h at)) x → (t : ℕ) → t ∈ (parts_of o p T h at).unknown → sum o 32 (λ r. o.mul (weight o ((parts_of o p T h at).unknown r)) (o.mul (entry_of o (parts_of o p T h at) t r) (u r))) ≡ right_of o (parts_of o p T h at) t
    solves_rows s t m =
        sym (image_row t m) ∙ s (count (parts_of o p T h at).unknown t) (count-lt (parts_of o p T h at).unknown t 32 m (unknown_below t m))
        ∙ assembled-right o (parts_of o p T h at) few t (unknown_below t m) m

    pub rows_kernel : ((t : ℕ) → t ∈ (parts_of o p T h at).unknown → sum o 32 (λ r. o.mul (weight o ((parts_of o p T h at).unknown r)) (o.mul (entry_of o (parts_of o p T h at) t r) (u r))) ≡ o.nought) → InKernel o (size (parts_of o p T h at)) (assembled o (parts_of o p T h at)) x
    rows_kernel met d l =
        let f = count_at (parts_of o p T h at).unknown 32 d l in
        subst (λ d. image o (size (parts_of o p T h at)) (assembled o (parts_of o p T h at)) x d ≡ o.nought) f.1.1.1 (image_row f.0 f.1.1.0 ∙ met f.0 f.1.1.0)

    pub kernel_rows : InKernel o (size (parts_of o p T h at)) (assembled o (parts_of o p T h at)) x → (t : ℕ) → t ∈ (parts_of o p T h at).unknown → sum o 32 (λ r. o.mul (weight o ((parts_of o p T h at).unknown r)) (o.mul (entry_of o (parts_of o p T h at) t r) (u r))) ≡ o.nought
    kernel_rows s t m = sym (image_row t m) ∙ s (count (parts_of o p T h at).unknown t) (count-lt (parts_of o p T h at).unknown t 32 m (unknown_below t m))

  -- stilled rows: the same conductances, no feeds, no levels
  still_conductance : (f : Option Kind) (r : Row M) → conductance o h f (stilled o f r) ≡ conductance o h f r
  still_conductance None r = refl
  still_conductance (Some Resistor) r = refl
  still_conductance (Some Inductor) r = refl
  still_conductance (Some Capacitor) r = refl
  still_conductance (Some VoltageSource) r = refl
  still_conductance (Some CurrentSource) r = refl

  still_feed : (f : Option Kind) (r : Row M) → feed o h f (stilled o f r) ≡ o.nought
  still_feed None r = refl
  still_feed (Some Resistor) r = refl
  still_feed (Some Inductor) r = refl
  still_feed (Some Capacitor) r = zeros (o.div r.value h)
    where
      zeros : (g : M) → o.neg (o.mul g o.nought) ≡ o.nought
      zeros g = simp (ring, laws)
  still_feed (Some VoltageSource) r = refl
  still_feed (Some CurrentSource) r = refl

  still_level : (f : Option Kind) (r : Row M) → is_voltage f ≡ true → (stilled o f r).value ≡ o.nought
  still_level None r e = absurd (both_ways false refl e)
  still_level (Some Resistor) r e = absurd (both_ways false refl e)
  still_level (Some Inductor) r e = absurd (both_ways false refl e)
  still_level (Some Capacitor) r e = absurd (both_ways false refl e)
  still_level (Some VoltageSource) r e = refl
  still_level (Some CurrentSource) r e = absurd (both_ways false refl e)

  pub still_value : (f : Option Kind) (r : Row M) → is_passive f ≡ true → (stilled o f r).value ≡ r.value
  still_value None r e = absurd (both_ways false refl e)
  still_value (Some Resistor) r e = refl
  still_value (Some Inductor) r e = refl
  still_value (Some Capacitor) r e = refl
  still_value (Some VoltageSource) r e = absurd (both_ways false refl e)
  still_value (Some CurrentSource) r e = absurd (both_ways false refl e)

  pub still_entry : (t r : ℕ) → entry_of o (parts_of o p T h (still_rows o p at)) t r ≡ entry_of o (parts_of o p T h at) t r
  unfolding entry_of parts_of
  still_entry t r =
      ap (λ (g : ℕ → M). through (λ k a. cond (is_passive (kind_at p k)) (taken o (agree (cut_row (graph_of p) T 32 t k) (cut_row (graph_of p) T 32 r k)) (g k) a) a) 32 o.nought)
      (λ i k. still_conductance (kind_at p k) (at k) i)

  pub still_right : (t : ℕ) → right_of o (parts_of o p T h (still_rows o p at)) t ≡ o.nought
  unfolding parts_of weight
  still_right t =
      right-sum laws (parts_of o p T h (still_rows o p at)) t
      ∙ ap₂ (λ a b. o.neg (o.add a b))
      (sum_zero laws 32 _ (λ v l. fixed (is_voltage (kind_at p v)) _ (λ e. sum_zero laws 32 _ (λ k l. deep _ _ _ _ (still_level (kind_at p v) (at v) e)))))
      (sum_zero laws 32 _ (λ k l. fed _ _ _ (still_feed (kind_at p k) (at k))))
      ∙ none
    where
      none : o.neg (o.add o.nought o.nought) ≡ o.nought
      none = simp (ring, laws)

      fed : (w q s : M) → s ≡ o.nought → o.mul w (o.mul q s) ≡ o.nought
      fed w q s e = ap (λ s. o.mul w (o.mul q s)) e ∙ simp (ring, laws)

      outside : (x : M) → o.mul o.nought x ≡ o.nought
      outside x = simp (ring, laws)

      zeroed : (w : M) → o.mul w o.nought ≡ o.nought
      zeroed w = simp (ring, laws)

      deep : (w q g e : M) → e ≡ o.nought → o.mul w (o.mul q (o.mul g e)) ≡ o.nought
      deep w q g e is = ap (λ e. o.mul w (o.mul q (o.mul g e))) is ∙ simp (ring, laws)

      fixed : (b : Bool) (x : M) → (b ≡ true → x ≡ o.nought) → o.mul (weight o b) x ≡ o.nought
      fixed false x f = outside x
      fixed true x f = ap (o.mul o.one) (f refl) ∙ zeroed o.one
