-- The theorem of stories. Assumes nothing.
--
-- Granted         the answer is no refusal
-- RefusedBy n a   the answer is a refusal by n
-- OnlyZeroDead    every dead list is zero at every placed branch
-- Solved          a step of length h: granted exactly if only the zero list is dead; the rows it leaves are the one live list
-- MeetsNeither    an answer that is no refusal by 12 or 13
-- Passes          no voltage source is left out of the tree that is kept, and no current source is in it
-- BestTree p met  met holds exactly if some tree is proper: it has every voltage source and no current source; the tree's
--                 call then grants one, with the most capacitors (class 1) and the fewest inductors (class 3)
-- BestKept p met  the same of the tree that is kept
-- BestTrees       a plan passes exactly if some tree is proper
-- FoundOn o c w   on an area that is w before the rows of its system, a step finds what it finds on its own
-- AnyArea         so it does on every area of 304 places, with companions or with none
-- SumsBy          value × change of voltage is the sum of step length × current, at a capacitor; of current and voltage, at an inductor
-- TreesBy a Best, TheoremBy a Best
--                 the theorem where a answers with a plan's tree, and Best is said of that
-- TreesOfStories, TheoremOfStories
--                 the theorem by the tree's call
-- TreesShowing, TheoremShowing
--                 the theorem whatever 12 and 13 show
use Rattle.std.specs.Prelude.{◌≡◌, ℕ, ◌<◌, ◌≤◌, true, false, ◌↔◌, List, length, Some}
use Rattle.arithmetic.specs.Ops.{Ops, may_divide}
use Rattle.sheet.specs.declared.kind.Kind.TheVariants.{Inductor, Capacitor}
use Rattle.sheet.specs.declared.plan.Plan.{Plan}
use Rattle.sheet.specs.Calls.{Sheet}
use Rattle.sheet.specs.Refusals.{Answer, granted, refused}
use Rattle.graphs.specs.Graph.{Set, ◌∈◌, count}
use Rattle.graphs.specs.Greedy.{of_class}
use Rattle.linear.specs.Elimination.{entry, solved}
use Rattle.topology.specs.Meanings.{ProperTree}
use Rattle.networks.specs.Networks.{placed, class_at}
use Rattle.topology.specs.Trees.{tree_set, loose, late, tree_of}
use Rattle.networks.specs.Words.{bits}
use Rattle.stories.specs.Networks.{kind_at, any}
use Rattle.stories.specs.Assembly.{Parts, size, written}
use Rattle.stories.specs.Steps.{row_at, solving, figure_of, step_parts, Showing, TreeCall, tree_showing, stepped_by}
use Rattle.stories.specs.Stories.{StoryCall, run_by, start_by, sum_by}
use Rattle.stories.specs.Laws.{Live, Dead, AllZero}

pub record Granted {X : Type 0} (a : Answer X) : Type 0 where
  pub what : X
  pub is : a ≡ granted what

abbrev pub OnlyZeroDead : {M : Type 0} → Ops M → M → Sheet M → Type 0
OnlyZeroDead o h s = (i u : ℕ → _) → Dead o s.plan (row_at o s.rows) h i u → AllZero o s.plan i u

pub record Solved {M : Type 0} (o : Ops M) (h : M) (s : Sheet M) (a : Answer (Sheet M)) : Type 0 where
  pub exactly : Granted a ↔ OnlyZeroDead o h s
  pub plan : (t : Sheet M) → a ≡ granted t → t.plan ≡ s.plan
  pub obeys :
      (t : Sheet M) → a ≡ granted t →
      Live o s.plan (row_at o s.rows) h (λ k. (row_at o t.rows k).current) (λ k. (row_at o t.rows k).voltage)
  pub only :
      (t : Sheet M) → a ≡ granted t → (i u : ℕ → M) → Live o s.plan (row_at o s.rows) h i u →
      (k : ℕ) → k ∈ placed s.plan → (i k ≡ (row_at o t.rows k).current) × (u k ≡ (row_at o t.rows k).voltage)

pub record Passes (p : Plan) : Type 0 where
  pub no_loop : any (loose p) 32 ≡ false
  pub no_cut : any (late p) 32 ≡ false

abbrev pub RefusedBy : {X : Type 0} → ℕ → Answer X → Type 0
RefusedBy n (granted x) = ⊥
RefusedBy n (refused t) = t.number ≡ n

abbrev pub MeetsNeither : {X : Type 0} → Answer X → Type 0
MeetsNeither a = (RefusedBy 12 a → ⊥) × (RefusedBy 13 a → ⊥)

pub record BestTree (p : Plan) (met : Type 0) : Type 0 where
  pub exactly : met ↔ ((S : Set) × ProperTree p S)
  pub ours : (S : Set) → ProperTree p S → (w : ℕ) × (tree_of p ≡ granted w) × ProperTree p (bits w)
  pub most : (S : Set) → ProperTree p S → (w : ℕ) → tree_of p ≡ granted w → count (of_class (class_at p) 1 S) 32 ≤ count (of_class (class_at p) 1 (bits w)) 32
  pub fewest : (S : Set) → ProperTree p S → (w : ℕ) → tree_of p ≡ granted w → count (of_class (class_at p) 3 (bits w)) 32 ≤ count (of_class (class_at p) 3 S) 32

pub record BestKept (p : Plan) (met : Type 0) : Type 0 where
  pub exactly : met ↔ ((S : Set) × ProperTree p S)
  pub ours : (S : Set) → ProperTree p S → ProperTree p (tree_set p)
  pub most : (S : Set) → ProperTree p S → count (of_class (class_at p) 1 S) 32 ≤ count (of_class (class_at p) 1 (tree_set p)) 32
  pub fewest : (S : Set) → ProperTree p S → count (of_class (class_at p) 3 (tree_set p)) 32 ≤ count (of_class (class_at p) 3 S) 32

abbrev pub BestTrees : Type 0
BestTrees = (p : Plan) → BestKept p (Passes p)

pub record FoundOn {M : Type 0} (o : Ops M) (c : Parts M) (w : List M) : Type 0 where
  pub ok : (solved o (size c) (written o c w)).ok ≡ (solving o c).ok
  pub figures : (r : ℕ) → r < size c → entry o (solved o (size c) (written o c w)).left r (size c) ≡ figure_of o c r

abbrev pub AnyArea : {M : Type 0} → Ops M → Type 0
AnyArea o = (h : _) (s : Sheet _) (w : List _) → length w ≡ 304 → FoundOn o (step_parts o h s) w

pub record SumsBy {M : Type 0} (o : Ops M) (a : TreeCall) (cs : List (StoryCall M)) (k : ℕ) : Type 0 where
  pub charge :
      kind_at (run_by o a cs).plan k ≡ Some Capacitor →
      o.mul (row_at o (run_by o a cs).rows k).value (o.sub (row_at o (run_by o a cs).rows k).voltage (start_by o a cs k)) ≡ sum_by o a (λ r. r.current) cs k
  pub flux :
      kind_at (run_by o a cs).plan k ≡ Some Inductor →
      o.mul (row_at o (run_by o a cs).rows k).value (o.sub (row_at o (run_by o a cs).rows k).current (start_by o a cs k)) ≡ sum_by o a (λ r. r.voltage) cs k

-- in every arithmetic: after every story, a step of a sound length that is not zero, with 32 rows and at least 304 places
abbrev pub TreesBy : {M : Type 0} → Ops M → TreeCall → (Plan → Type 0 → Type 0) → Type 0
TreesBy o a Best =
    (cs : List (StoryCall _)) (h : _) (area : ℕ) → o.is_sound h ≡ true → may_divide o h ≡ true → 304 ≤ area →
    Best (run_by o a cs).plan (MeetsNeither (stepped_by o a 32 area h (run_by o a cs)))

-- in an exact one
pub record TheoremBy {M : Type 0} (o : Ops M) (a : TreeCall) (Best : Plan → Type 0 → Type 0) : Type 0 where
  pub solved :
      (cs : List (StoryCall M)) (h : M) (area : ℕ) → may_divide o h ≡ true → 304 ≤ area →
      Solved o h (run_by o a cs) (stepped_by o a 32 area h (run_by o a cs))
  pub trees : TreesBy o a Best
  pub sums : (cs : List (StoryCall M)) (k : ℕ) → SumsBy o a cs k

abbrev pub TreesOfStories : {M : Type 0} → Ops M → Type 0
TreesOfStories o = TreesBy o tree_of BestTree

abbrev pub TheoremOfStories : {M : Type 0} → Ops M → Type 0
TheoremOfStories o = TheoremBy o tree_of BestTree

abbrev pub TreesShowing : {M : Type 0} → Ops M → Type 0
TreesShowing o = (w : Showing) → TreesBy o (tree_showing w) BestKept

abbrev pub TheoremShowing : {M : Type 0} → Ops M → Type 0
TheoremShowing o = (w : Showing) → TheoremBy o (tree_showing w) BestKept
