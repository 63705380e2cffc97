-- What the answers mean: trees, loops and cuts of the graph of a plan. Assumes nothing.
--
-- currents p          the current sources (class 4)
-- ProperTree p T      T is a tree of the plan that holds every voltage source and no current source
-- VoltageLoop p s     s is the loop along the lowest voltage source outside the tree and back over voltage sources of
--                     the tree, passing no branch twice
-- CurrentCut p s      s is the cut of the nodes that branches other than current sources reach from the tail of the lowest
--                     current source of the tree; it is made of current sources alone, that one among them
-- Shows p t           what a refusal tells: 12 and such a loop, or 13 and such a cut
-- earlier p k         the placed branches that come before k: of a lower class, or of its class with a lower number
-- TreeAnswer p a      what an answer to the tree's call means
-- LoopRow p k s       k is a link, and s is the loop along it and back through the tree, passing no branch twice
-- LoopAnswer p k a    what an answer to the call for the loop row of k means
-- CutRow p t s        t is in the tree, and s is the cut of the nodes that the tree without t joins with t's tail;
--                     no other tree branch is in it
-- CutAnswer p t a     what an answer to the call for the cut row of t means
-- IncidenceAnswer     plus at the tail, minus at the head, none at another node and for an absent branch
use Rattle.std.specs.Prelude.{◌≡◌, ℕ, ◌<◌, ◌≤◌, false, ◌&&◌, ◌||◌, ◌==◌, nat_lt, ◌⊎◌, ◌↔◌, pos, Some, None, Option, ◌≢◌}
use Rattle.sheet.specs.declared.branch.Branch.{Branch}
use Rattle.sheet.specs.declared.plan.Plan.{Plan}
use Rattle.sheet.specs.declared.refusal.Shown.{Shown}
use Rattle.sheet.specs.Plans.{branch_at}
use Rattle.sheet.specs.Refusals.{Answer, granted, refused, Told, shown_of}
use Rattle.graphs.specs.Graph.{Set, ◌∈◌, both, without, count, Sign, plus, none, minus, Walk, Spans, LoopAlong, way_around, Tree}
use Rattle.graphs.specs.Cuts.{cut, leaves, cut_row, incidence}
use Rattle.graphs.specs.Greedy.{of_class, Proper}
use Rattle.graphs.specs.Groups.{sum_over, times}
use Rattle.topology.specs.Matrices.{entry, integers, value, dot}
use Rattle.networks.specs.Networks.{graph_of, placed, class_at}
use Rattle.topology.specs.Rows.{shown}
use Rattle.topology.specs.Trees.{tree_set, tree_of, cut_row_of, voltages, no_currents}
use Rattle.networks.specs.Words.{bits}

abbrev pub currents : Plan → Set
currents p = of_class (class_at p) 4 (placed p)

abbrev pub ProperTree : Plan → Set → Type 0
ProperTree p T = Proper (graph_of p) (class_at p) (placed p) T

pub record VoltageLoop (p : Plan) (s : Shown) : Type 0 where
  pub source : ℕ
  pub of_source : source ∈ voltages p
  pub outside : tree_set p source ≡ false
  pub lowest : (j : ℕ) → j < source → j ∈ voltages p → j ∈ tree_set p
  pub around : LoopAlong (graph_of p) (both (tree_set p) (voltages p)) source
  pub row : s ≡ shown (way_around around)

pub record CurrentCut (p : Plan) (s : Shown) : Type 0 where
  pub source : ℕ
  pub of_source : source ∈ currents p
  pub in_tree : source ∈ tree_set p
  pub lowest : (j : ℕ) → j < source → j ∈ currents p → tree_set p j ≡ false
  pub nodes : Set
  pub reached : (x : ℕ) → x ∈ nodes ↔ Walk (graph_of p) (no_currents p) ((graph_of p).tail source) x
  pub inside : (graph_of p).tail source ∈ nodes
  pub member : source ∈ cut (graph_of p) (placed p) nodes
  pub all : (k : ℕ) → k ∈ cut (graph_of p) (placed p) nodes → k ∈ currents p
  pub row : s ≡ shown (leaves (graph_of p) nodes)
  pub members : bits s.members ≡ cut (graph_of p) (placed p) nodes

abbrev pub Shows : Plan → Told → Type 0
Shows p t =
    ((s : Shown) × (t ≡ record { number = 12; words = shown_of (Some s) }) × VoltageLoop p s)
    ⊎ ((s : Shown) × (t ≡ record { number = 13; words = shown_of (Some s) }) × CurrentCut p s)

abbrev pub earlier : Plan → ℕ → Set
earlier p k j = placed p j && (nat_lt (class_at p j) (class_at p k) || (class_at p j == class_at p k && nat_lt j k))

pub record TreeAnswer (p : Plan) (a : Answer ℕ) : Type 0 where
  -- a tree is granted exactly if some tree is proper
  pub exactly : ((w : ℕ) × (a ≡ granted w)) ↔ ((T : Set) × ProperTree p T)
  pub tree : (w : ℕ) → a ≡ granted w → Tree (graph_of p) (placed p) (bits w)
  pub proper : (w : ℕ) → a ≡ granted w → ProperTree p (bits w)
  -- no proper tree has more capacitors or fewer inductors
  pub most : (w : ℕ) → a ≡ granted w → (T : Set) → ProperTree p T → count (of_class (class_at p) 1 T) 32 ≤ count (of_class (class_at p) 1 (bits w)) 32
  pub fewest : (w : ℕ) → a ≡ granted w → (T : Set) → ProperTree p T → count (of_class (class_at p) 3 (bits w)) 32 ≤ count (of_class (class_at p) 3 T) 32
  -- a branch is in the tree exactly if those of the tree that come before it do not join its ends
  pub turn : (w : ℕ) → a ≡ granted w → (k : ℕ) → k ∈ placed p → k ∈ bits w ↔ (Spans (graph_of p) (both (bits w) (earlier p k)) k → ⊥)
  -- incidence is its tree columns times the cut rows
  pub columns : (w : ℕ) → a ≡ granted w → (x k : ℕ) → k ∈ placed p → value (incidence (graph_of p) x k) ≡ sum_over integers (bits w) (λ t. times integers (entry (shown (cut_row (graph_of p) (bits w) 32 t)) k) (value (incidence (graph_of p) x t))) 32
  pub shows : (t : Told) → a ≡ refused t → Shows p t

pub record LoopRow (p : Plan) (k : ℕ) (s : Shown) : Type 0 where
  pub is_placed : k ∈ placed p
  pub outside : tree_set p k ≡ false
  pub around : LoopAlong (graph_of p) (tree_set p) k
  pub row : s ≡ shown (way_around around)
  -- incidence times the row is zero
  pub balances : (x : ℕ) → dot (entry s) (incidence (graph_of p) x) ≡ pos 0

pub record LoopAnswer (p : Plan) (k : ℕ) (a : Answer (Option Shown)) : Type 0 where
  pub refusals : (t : Told) → a ≡ refused t ↔ tree_of p ≡ refused t
  pub link : (s : Shown) → a ≡ granted (Some s) → LoopRow p k s
  -- the row is orthogonal to every cut row
  pub orthogonal : (s : Shown) → a ≡ granted (Some s) → (t : ℕ) (c : Shown) → cut_row_of p t ≡ granted (Some c) → dot (entry s) (entry c) ≡ pos 0
  pub no_link : a ≡ granted None → k ∈ placed p → k ∈ tree_set p

pub record CutRow (p : Plan) (t : ℕ) (s : Shown) : Type 0 where
  pub in_tree : t ∈ tree_set p
  pub nodes : Set
  pub side : (x : ℕ) → x ∈ nodes ↔ Walk (graph_of p) (without (tree_set p) t) ((graph_of p).tail t) x
  pub member : t ∈ cut (graph_of p) (placed p) nodes
  pub alone : (k : ℕ) → k ∈ tree_set p → k ∈ cut (graph_of p) (placed p) nodes → k ≡ t
  pub row : s ≡ shown (leaves (graph_of p) nodes)
  pub members : bits s.members ≡ cut (graph_of p) (placed p) nodes
  -- the row is the sum of the incidence rows of those nodes
  pub rows : (k : ℕ) → k < 32 → sum_over integers nodes (λ x. value (incidence (graph_of p) x k)) 16 ≡ value (entry s k)

pub record CutAnswer (p : Plan) (t : ℕ) (a : Answer (Option Shown)) : Type 0 where
  pub refusals : (e : Told) → a ≡ refused e ↔ tree_of p ≡ refused e
  pub of_tree : (s : Shown) → a ≡ granted (Some s) → CutRow p t s
  pub no_tree : a ≡ granted None → tree_set p t ≡ false

pub record IncidenceAnswer (p : Plan) (x k : ℕ) (s : Sign) : Type 0 where
  pub at_tail : (b : Branch) → branch_at p k ≡ Some b → x ≡ b.ends.tail → s ≡ plus
  pub at_head : (b : Branch) → branch_at p k ≡ Some b → x ≡ b.ends.head → s ≡ minus
  pub elsewhere : (b : Branch) → branch_at p k ≡ Some b → (x ≢ b.ends.tail) → (x ≢ b.ends.head) → s ≡ none
  pub absent : branch_at p k ≡ None → s ≡ none
