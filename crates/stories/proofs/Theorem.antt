-- The theorem of stories. Assumes nothing.
use Rattle.std.proofs.Common.{◌≡◌, ℕ, ◌≤◌, Bool, true, false, not, ◌&&◌, ◌||◌, eqb, ltb, ◌↔◌, sym, ap, subst, arith}
use Rattle.std.proofs.lemmas.Bool.{le-ltb, and_from}
use Rattle.arithmetic.specs.Ops.{Ops, Exact, may_divide}
use Rattle.sheet.specs.declared.plan.Plan.{Plan}
use Rattle.sheet.specs.Calls.{Sheet}
use Rattle.sheet.specs.Refusals.{Answer, granted}
use Rattle.topology.specs.Meanings.{ProperTree}
use Rattle.topology.specs.Trees.{tree_set, tree_of}
use Rattle.stories.specs.Steps.{solving, unsound, renewed_rows, TreeCall, tree_showing, step_parts, step_result, stepped_by}
use Rattle.stories.specs.Stories.{run_by}
use Rattle.stories.specs.Theorem.{MeetsNeither, BestTree, BestKept, BestTrees, AnyArea, TreesBy, TheoremBy, TreesOfStories, TheoremOfStories, TreesShowing, TheoremShowing}
use Rattle.stories.proofs.Areas.{found_on}
use Rattle.stories.proofs.Systems.{step_few}
use Rattle.stories.proofs.Trees.{none_loose, none_late, passes, best_kept, best_tree, Answers, loop, cut, tree, by_the_call, by_showing}
use Rattle.stories.proofs.Granting.{chain, step-solved}
use Rattle.stories.proofs.Sheets.{kept_by}
use Rattle.stories.proofs.Sums.{sums}

-- past 1 and 11, a step meets neither 12 nor 13 exactly if the tree that is kept is proper
later : {X : Type 0} (w : ℕ) (c d : Bool) (x : X) → MeetsNeither (chain false false (granted w) c d x)
later w true d x = (λ z. omega arith, λ z. omega arith)
later w false true x = (λ z. omega arith, λ z. omega arith)
later w false false x = (λ z. z, λ z. z)

meets : {X : Type 0} (p : Plan) (a : Answer ℕ) → Answers p a → (c d : Bool) (x : X) → MeetsNeither (chain false false a c d x) ↔ ProperTree p (tree_set p)
meets p a (loop k t i n e) c d x = (λ m. absurd ((subst (λ a. MeetsNeither (chain false false a c d x)) e m).0 n), λ proper. absurd (none_loose p proper k i))
meets p a (cut k t i n e) c d x = (λ m. absurd ((subst (λ a. MeetsNeither (chain false false a c d x)) e m).1 n), λ proper. absurd (none_late p proper k i))
meets p a (tree w proper e) c d x = (λ m. proper, λ q. subst (λ a. MeetsNeither (chain false false a c d x)) (sym e) (later w c d x))

step_meets : {M : Type 0} (o : Ops M) (a : TreeCall) → ((p : Plan) → Answers p (a p)) → (area : ℕ) (h : M) (s : Sheet M) → o.is_sound h ≡ true → may_divide o h ≡ true → 304 ≤ area →
    MeetsNeither (stepped_by o a 32 area h s) ↔ ProperTree s.plan (tree_set s.plan)
step_meets o a says area h s sound divide room =
    let sizes : (not (eqb 32 32) || ltb area 304) ≡ false = le-ltb area 304 room in
    let good : not (o.is_sound h && may_divide o h) ≡ false = ap not (and_from _ _ sound divide) in
    subst (λ x. MeetsNeither x ↔ ProperTree s.plan (tree_set s.plan))
    (λ i. chain (sym sizes i) (sym good i) (a s.plan) (not (solving o (step_parts o h s)).ok) (unsound o s.plan (step_result o h s)) (record { plan = s.plan; rows = renewed_rows o s.plan s.rows (step_result o h s) }))
    (meets s.plan (a s.plan) (says s.plan) (not (solving o (step_parts o h s)).ok) (unsound o s.plan (step_result o h s)) (record { plan = s.plan; rows = renewed_rows o s.plan s.rows (step_result o h s) }))

-- the theorem where Best is said of what a answers
module _ (a : TreeCall) (says : (p : Plan) → Answers p (a p)) (Best : Plan → Type 0 → Type 0) (best : (p : Plan) (met : Type 0) → met ↔ ProperTree p (tree_set p) → Best p met) where
  trees_by : {M : Type 0} (o : Ops M) → TreesBy o a Best
  trees_by o cs h area sound divide room = best (run_by o a cs).plan _ (step_meets o a says area h (run_by o a cs) sound divide room)

  theorem_by : {M : Type 0} {o : Ops M} → Exact o → TheoremBy o a Best
  theorem_by {o = o} laws = record {
    solved = λ cs h area divide room. let kept = kept_by laws a says cs in step-solved laws (run_by o a cs) kept.table kept.values h divide a says area room;
    trees = trees_by o;
    sums = sums laws a says;
  }

pub best_trees : BestTrees
best_trees p = best_kept p _ (passes p)

pub any_area : {M : Type 0} (o : Ops M) → AnyArea o
any_area o h s = found_on o (step_parts o h s) (step_few o h s)

pub trees_of_stories : {M : Type 0} (o : Ops M) → TreesOfStories o
trees_of_stories = trees_by tree_of by_the_call BestTree best_tree

pub theorem_of_stories : {M : Type 0} {o : Ops M} → Exact o → TheoremOfStories o
theorem_of_stories = theorem_by tree_of by_the_call BestTree best_tree

pub trees_showing : {M : Type 0} (o : Ops M) → TreesShowing o
trees_showing o w = trees_by (tree_showing w) (by_showing w) BestKept best_kept o

pub theorem_showing : {M : Type 0} {o : Ops M} → Exact o → TheoremShowing o
theorem_showing laws w = theorem_by (tree_showing w) (by_showing w) BestKept best_kept laws
