-- A step is granted exactly if only the zero list is dead, and then its rows hold the one live list. Assumes nothing.
use Rattle.std.proofs.Common.{◌≡◌, ℕ, ◌≤◌, Bool, true, false, cond, not, ◌&&◌, ◌||◌, eqb, ltb, length, sym, refl, ap, ◌∙◌, subst, subst₂, arith}
use Rattle.std.proofs.lemmas.Bool.{both_ways, le-ltb, and_from, and_parts, and_right, not-false}
use Rattle.arithmetic.specs.Ops.{Ops, Exact, may_divide}
use Rattle.sheet.specs.declared.plan.Plan.{Plan}
use Rattle.sheet.specs.declared.row.Row.{Row}
use Rattle.sheet.specs.Calls.{Sheet}
use Rattle.sheet.specs.Refusals.{Answer, granted, refused, refuse, after, Told}
use Rattle.graphs.specs.Graph.{◌∈◌}
use Rattle.graphs.specs.Cuts.{incidence}
use Rattle.linear.proofs.Sums.{sum_same}
use Rattle.topology.specs.Meanings.{ProperTree}
use Rattle.networks.specs.Networks.{graph_of, placed}
use Rattle.topology.specs.Trees.{tree_set}
use Rattle.topology.proofs.Theory.{is_tree}
use Rattle.stories.specs.Networks.{kind_at, is_passive}
use Rattle.stories.specs.Steps.{row_at, solving, figure_of, voltage_of, current_of, renewed_rows, unsound, TreeCall, step_parts, step_result, stepped_by}
use Rattle.stories.specs.Laws.{signed, Law, Live}
use Rattle.stories.specs.Theorem.{Granted, OnlyZeroDead, Solved}
use Rattle.stories.proofs.Networks.{none_any}
use Rattle.stories.proofs.Trees.{proper_voltage, Answers, loop, cut, tree}
use Rattle.stories.proofs.Deads.{loop_some, cut_some}
use Rattle.stories.proofs.Solving.{ok_live, ok_only, ok_dead, stuck}
use Rattle.stories.proofs.Results.{renewed-placed}

pub never : {X : Type 0} {A : Type 0} (t : Told) (x : X) → refused t ≡ granted x → A
never t x e = let z : ◌≡◌ {A = ℕ} 0 1 = cc in absurd (omega arith)

pub granted_is : {X : Type 0} (x y : X) → granted x ≡ granted y → x ≡ y
granted_is x y e = cc

-- the checks of a step
abbrev pub chain : {X : Type 0} → Bool → Bool → Answer ℕ → Bool → Bool → X → Answer X
chain a1 a11 a a14 a15 x = refuse 1 a1 (refuse 11 a11 (after a (λ tree. refuse 14 a14 (refuse 15 a15 (granted x)))))

record Went {X : Type 0} (a1 a11 : Bool) (a : Answer ℕ) (a14 a15 : Bool) (x t : X) : Type 0 where
  sizes : a1 ≡ false
  length_good : a11 ≡ false
  tree : (w : ℕ) × (a ≡ granted w)
  pivots : a14 ≡ false
  sound : a15 ≡ false
  is : t ≡ x

went : {X : Type 0} (a1 a11 : Bool) (a : Answer ℕ) (a14 a15 : Bool) (x t : X) → chain a1 a11 a a14 a15 x ≡ granted t → Went a1 a11 a a14 a15 x t
went true a11 a a14 a15 x t e = never _ t e
went false true a a14 a15 x t e = never _ t e
went false false (refused r) a14 a15 x t e = never r t e
went false false (granted w) true a15 x t e = never _ t e
went false false (granted w) false true x t e = never _ t e
went false false (granted w) false false x t e = record { sizes = refl; length_good = refl; tree = (w, refl); pivots = refl; sound = refl; is = sym (granted_is x t e) }

-- a tree is granted where that of the plan is proper
granted_proper : (p : Plan) (a : Answer ℕ) → Answers p a → (w : ℕ) → a ≡ granted w → ProperTree p (tree_set p)
granted_proper p a (loop k t m n e) w g = never t w (sym e ∙ g)
granted_proper p a (cut k t m n e) w g = never t w (sym e ∙ g)
granted_proper p a (tree v proper e) w g = proper

-- what a granted step leaves
pub step_went : {M : Type 0} (o : Ops M) (a : TreeCall) → ((p : Plan) → Answers p (a p)) → (n area : ℕ) (h : M) (s t : Sheet M) → stepped_by o a n area h s ≡ granted t →
    (may_divide o h ≡ true) × ((ProperTree s.plan (tree_set s.plan)) × (((solving o (step_parts o h s)).ok ≡ true) × (t ≡ record { plan = s.plan; rows = renewed_rows o s.plan s.rows (step_result o h s) })))
step_went o a says n area h s t e =
    let f = went (not (eqb n 32) || ltb area 304) (not (o.is_sound h && may_divide o h)) (a s.plan) (not (solving o (step_parts o h s)).ok) (unsound o s.plan (step_result o h s)) (record { plan = s.plan; rows = renewed_rows o s.plan s.rows (step_result o h s) }) t e in
    ((and_parts (o.is_sound h) (may_divide o h) (not-false (o.is_sound h && may_divide o h) f.length_good)).1, (granted_proper s.plan (a s.plan) (says s.plan) f.tree.0 f.tree.1, (not-false (solving o (step_parts o h s)).ok f.pivots, f.is)))

-- a live list at placed branches
same_live : {M : Type 0} (o : Ops M) (p : Plan) (at : ℕ → Row M) (h : M) (i u j v : ℕ → M) → ((k : ℕ) → k ∈ placed p → i k ≡ j k) → ((k : ℕ) → k ∈ placed p → u k ≡ v k) → Live o p at h i u → Live o p at h j v
same_live {M} o p at h i u j v a b l = record {
  nodes = λ x n. sum_same o 32 _ _ (λ k m. node x k (placed p k) refl) ∙ l.nodes x n;
  figures = (l.figures.0, λ k m. sym (b k m) ∙ l.figures.1 k m);
  branches = λ k m. subst₂ (λ x y. Law o h (kind_at p k) (at k) x y) (a k m) (b k m) (l.branches k m);
}
  where
    node : (x k : ℕ) (c : Bool) → placed p k ≡ c → cond c (signed o (incidence (graph_of p) x k) (j k)) o.nought ≡ cond c (signed o (incidence (graph_of p) x k) (i k)) o.nought
    node x k true e = ap (signed o (incidence (graph_of p) x k)) (sym (a k e))
    node x k false e = refl

module _ {M : Type 0} {o : Ops M} (laws : Exact o) where
  pub divides : (x : M) → may_divide o x ≡ true → x ≡ o.nought → ⊥
  divides x e z = both_ways (may_divide o x) (ap (λ x. not (o.is_zero x)) z ∙ ap not laws.zero_yes) e

  module _ (s : Sheet M) (long : length s.rows ≡ 32) (nv : (k : ℕ) → is_passive (kind_at s.plan k) ≡ true → (row_at o s.rows k).value ≡ o.nought → ⊥) (h : M) (divide : may_divide o h ≡ true) where
    module _ (proper : ProperTree s.plan (tree_set s.plan)) (ok : (solving o (step_parts o h s)).ok ≡ true) where
      pub row_current : (k : ℕ) → k ∈ placed s.plan → current_of o (step_parts o h s) (figure_of o (step_parts o h s)) k ≡ (row_at o (renewed_rows o s.plan s.rows (step_result o h s)) k).current
      row_current k m = sym (ap (λ r. r.current) (renewed-placed o s.plan s.rows long (step_result o h s) k m))

      pub row_voltage : (k : ℕ) → k ∈ placed s.plan → voltage_of o (step_parts o h s) (figure_of o (step_parts o h s)) k ≡ (row_at o (renewed_rows o s.plan s.rows (step_result o h s)) k).voltage
      row_voltage k m = sym (ap (λ r. r.voltage) (renewed-placed o s.plan s.rows long (step_result o h s) k m))

      rows_live : Live o s.plan (row_at o s.rows) h (λ k. (row_at o (renewed_rows o s.plan s.rows (step_result o h s)) k).current) (λ k. (row_at o (renewed_rows o s.plan s.rows (step_result o h s)) k).voltage)
      rows_live = same_live o s.plan (row_at o s.rows) h _ _ _ _ row_current row_voltage
          (ok_live laws s.plan (tree_set s.plan) (is_tree s.plan) (proper_voltage s.plan proper) h (divides h divide) (row_at o s.rows) nv ok)

      rows_only : (i u : ℕ → M) → Live o s.plan (row_at o s.rows) h i u → (k : ℕ) → k ∈ placed s.plan →
          (i k ≡ (row_at o (renewed_rows o s.plan s.rows (step_result o h s)) k).current) × (u k ≡ (row_at o (renewed_rows o s.plan s.rows (step_result o h s)) k).voltage)
      rows_only i u l k m =
          let f = ok_only laws s.plan (tree_set s.plan) (is_tree s.plan) (proper_voltage s.plan proper) h (divides h divide) (row_at o s.rows) nv ok i u l k m in
          (f.0 ∙ row_current k m, f.1 ∙ row_voltage k m)

    no_unsound : unsound o s.plan (step_result o h s) ≡ false
    unfolding unsound
    no_unsound = none_any _ 32 (λ k l. and_right (placed s.plan k) _ (ap not (and_from _ _ (laws.sound_always _) (laws.sound_always _))))

    module _ (a : TreeCall) (says : (p : Plan) → Answers p (a p)) (n area : ℕ) where
      pub step_live : (t : Sheet M) → stepped_by o a n area h s ≡ granted t → Live o s.plan (row_at o s.rows) h (λ k. (row_at o t.rows k).current) (λ k. (row_at o t.rows k).voltage)
      step_live t e =
          let f = (step_went o a says n area h s t e).1 in
          subst (λ (t : Sheet M). Live o s.plan (row_at o s.rows) h (λ k. (row_at o t.rows k).current) (λ k. (row_at o t.rows k).voltage)) (sym f.1.1) (rows_live f.0 f.1.0)

    pub step-solved : (a : TreeCall) → ((p : Plan) → Answers p (a p)) → (area : ℕ) → 304 ≤ area → Solved o h s (stepped_by o a 32 area h s)
    step-solved a says area room = record {
      exactly = (
        λ g. let f = (step_went o a says 32 area h s g.what g.is).1 in ok_dead laws s.plan (tree_set s.plan) (is_tree s.plan) (proper_voltage s.plan f.0) h (divides h divide) (row_at o s.rows) nv f.1.0,
        λ only. go only (says s.plan) (solving o (step_parts o h s)).ok refl,
      );
      plan = λ t e. ap (λ t. t.plan) (step_went o a says 32 area h s t e).1.1.1;
      obeys = step_live a says 32 area;
      only = λ t e i u l k m.
          let f = (step_went o a says 32 area h s t e).1 in
          subst (λ (t : Sheet M). (i k ≡ (row_at o t.rows k).current) × (u k ≡ (row_at o t.rows k).voltage)) (sym f.1.1) (rows_only f.0 f.1.0 i u l k m);
    }
      where
        sizes : (not (eqb 32 32) || ltb area 304) ≡ false
        sizes = le-ltb area 304 room

        good : not (o.is_sound h && may_divide o h) ≡ false
        good = ap not (and_from _ _ (laws.sound_always h) divide)

        go : OnlyZeroDead o h s → Answers s.plan (a s.plan) → (c : Bool) → (solving o (step_parts o h s)).ok ≡ c → Granted (stepped_by o a 32 area h s)
        go only (loop k t m n e) c i = absurd (loop_some laws s.plan (row_at o s.rows) h k m only)
        go only (cut k t m n e) c i = absurd (cut_some laws s.plan (row_at o s.rows) h k m only)
        go only (tree w proper e) false i = absurd (stuck laws s.plan (tree_set s.plan) (is_tree s.plan) (proper_voltage s.plan proper) h (divides h divide) (row_at o s.rows) nv i only)
        go only (tree w proper e) true i = record {
          what = record { plan = s.plan; rows = renewed_rows o s.plan s.rows (step_result o h s) };
          is = λ j. chain (sizes j) (good j) (e j) (not (i j)) (no_unsound j) (record { plan = s.plan; rows = renewed_rows o s.plan s.rows (step_result o h s) });
        }
