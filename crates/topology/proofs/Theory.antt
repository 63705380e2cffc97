-- The graph theory at work on a plan: its tree, and when 12 and 13 are met.
use Rattle.std.proofs.Common.{◌≡◌, ℕ, ◌<◌, ◌≤◌, true, false, not, ltb, leb, ◌⊎◌, is_some, Some, None, Option, refl, inl, inr, arith}
use Rattle.std.proofs.lemmas.Bool.{and_parts, and_from, leb-false, not-true, not_from_false, both_ways, cases_Bool}
use Rattle.sheet.specs.declared.branch.Branch.{Branch}
use Rattle.sheet.specs.declared.kind.Kind.{Kind}
use Rattle.sheet.specs.declared.kind.Kind.TheVariants.{Resistor, Inductor, Capacitor, VoltageSource, CurrentSource}
use Rattle.sheet.specs.declared.plan.Plan.{Plan}
use Rattle.sheet.specs.Plans.{branch_at}
use Rattle.graphs.specs.Graph.{Set, ◌∈◌, Below, Ends, Tree}
use Rattle.graphs.specs.Joint.{Listing, BestTree, BestProper, Rows}
use Rattle.graphs.proofs.Joint.{theory}
use Rattle.graphs.proofs.Sets.{out}
use Rattle.graphs.proofs.Classes.{up_to_less, up_to_class, up_to_in}
use Rattle.topology.specs.Meanings.{ProperTree}
use Rattle.networks.specs.Networks.{kind_class, class_found, graph_of, placed, class_at}
use Rattle.topology.specs.Trees.{order, tree_set, voltages, no_currents, loose, late}
use Rattle.networks.specs.Words.{first}
use Rattle.networks.proofs.Firsts.{first_member, first-none}
use Rattle.networks.proofs.Networks.{placed_below, tail_node, head_node}

pub ends_placed : (p : Plan) → Ends 16 (graph_of p) (placed p)
ends_placed p k m = (tail_node p k, head_node p k)

kind_low : (k : Kind) → kind_class k ≤ 4
kind_low Resistor = omega arith
kind_low Inductor = omega arith
kind_low Capacitor = omega arith
kind_low VoltageSource = omega arith
kind_low CurrentSource = omega arith

pub class_low : (p : Plan) (k : ℕ) → k ∈ placed p → class_at p k ≤ 4
unfolding placed class_at
class_low p k m = go (branch_at p k) (and_parts (ltb k 32) (is_some (branch_at p k)) m).1
  where
    go : (o : Option Branch) → is_some o ≡ true → class_found o ≤ 4
    go None e = absurd (both_ways false refl e)
    go (Some b) e = kind_low b.kind

pub listing : (p : Plan) → Listing (graph_of p) 32 16 (placed p) (class_at p) (order p)
listing p = (theory ℕ).listing (graph_of p) 32 16 5 (placed p) (class_at p) (placed_below p) (ends_placed p) (λ k m. omega (arith, class_low p k m))

pub best : (p : Plan) → BestTree (graph_of p) 32 (placed p) (class_at p) (order p)
best p = (theory ℕ).best (graph_of p) 32 16 (placed p) (class_at p) (order p) (listing p)

pub best_proper : (p : Plan) → BestProper (graph_of p) 32 (placed p) (class_at p) (order p)
best_proper p = (theory ℕ).proper (graph_of p) 32 16 (placed p) (class_at p) (order p) (listing p) (class_low p)

-- the branches kept are a tree
pub is_tree : (p : Plan) → Tree (graph_of p) (placed p) (tree_set p)
unfolding tree_set
is_tree p = (best p).tree

pub tree_below : (p : Plan) → Below 32 (tree_set p)
tree_below p k m = placed_below p k ((is_tree p).placed k m)

pub tree_rows : (p : Plan) → Rows (graph_of p) (tree_set p) 32
tree_rows p = (theory ℕ).rows (graph_of p) (tree_set p) 32 (tree_below p) (is_tree p).free

-- none is found exactly where there is none
found_none : (S : Set) → ((k : ℕ) → k < 32 → S k ≡ false) → first S ≡ None
found_none S h = go (first S) refl
  where
    go : (o : Option ℕ) → first S ≡ o → first S ≡ None
    go None e = e
    go (Some k) e = let m = first_member S 0 32 k e in absurd (both_ways (S k) (h k (omega (arith, m.1))) m.0)

none_found : (S : Set) → Below 32 S → first S ≡ None → (k : ℕ) → k ∈ S → ⊥
none_found S below e k m = both_ways (S k) (first-none S 0 32 k e (omega arith) (omega (arith, below k m))) m

-- a loose source is a voltage source outside the tree, a late one a current source in it
pub loose_is : (p : Plan) (k : ℕ) → k ∈ loose p → (k ∈ placed p) × (class_at p k ≡ 0) × (tree_set p k ≡ false)
loose_is p k m =
    let parts = and_parts (voltages p k) (not (tree_set p k)) m in
    let low = up_to_class (class_at p) 0 (placed p) k parts.0 in
    (up_to_less (class_at p) 0 (placed p) k parts.0, omega (arith, low), not-true (tree_set p k) parts.1)

pub late_is : (p : Plan) (k : ℕ) → k ∈ late p → (k ∈ tree_set p) × (class_at p k ≡ 4)
late_is p k m =
    let parts = and_parts (tree_set p k) (not (no_currents p k)) m in
    let is_placed = (is_tree p).placed k parts.0 in
    let low = class_low p k is_placed in
    (parts.0, go low (cases_Bool (leb (class_at p k) 3)) (not-true (no_currents p k) parts.1) is_placed)
  where
    go : class_at p k ≤ 4 → (leb (class_at p k) 3 ≡ true) ⊎ (leb (class_at p k) 3 ≡ false) → no_currents p k ≡ false → k ∈ placed p → class_at p k ≡ 4
    go low (inl le) o is_placed = absurd (both_ways (no_currents p k) o (and_from (placed p k) (leb (class_at p k) 3) is_placed le))
    go low (inr gt) o is_placed = omega (arith, leb-false (class_at p k) 3 gt)

pub late_in : (p : Plan) (k : ℕ) → k ∈ tree_set p → class_at p k ≡ 4 → k ∈ late p
late_in p k m c = and_from (tree_set p k) (not (no_currents p k)) m (not_from_false (no_currents p k) (out (no_currents p k) (λ i. let le = up_to_class (class_at p) 3 (placed p) k i in omega arith)))

-- neither is met exactly if the tree kept is proper
pub none_proper : (p : Plan) → first (loose p) ≡ None → first (late p) ≡ None → ProperTree p (tree_set p)
none_proper p no-loose no-late = record {
  tree = is_tree p;
  every = λ k m c. go k m c (cases_Bool (tree_set p k));
  never = λ k m c. none_found (late p) (λ j l. tree_below p j (late_is p j l).0) no-late k (late_in p k m c);
}
  where
    go : (k : ℕ) → k ∈ placed p → class_at p k ≡ 0 → (tree_set p k ≡ true) ⊎ (tree_set p k ≡ false) → k ∈ tree_set p
    go k m c (inl i) = i
    go k m c (inr o) = absurd (none_found (loose p) (λ j l. placed_below p j (loose_is p j l).0) no-loose k (and_from (voltages p k) (not (tree_set p k)) (up_to_in (class_at p) 0 (placed p) k m (omega arith)) (not_from_false (tree_set p k) o)))

pub proper_none : (p : Plan) → ProperTree p (tree_set p) → (first (loose p) ≡ None) × (first (late p) ≡ None)
proper_none p proper = (
  found_none (loose p) (λ k lt. out (loose p k) (λ m. let l = loose_is p k m in both_ways (tree_set p k) l.2 (proper.every k l.0 l.1))),
  found_none (late p) (λ k lt. out (late p k) (λ m. let l = late_is p k m in proper.never k l.0 l.1)),
)
