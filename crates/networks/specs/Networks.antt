-- A plan as a graph: its branches are the places, its nodes 0 to 15. Assumes nothing.
--
-- kind_class    the class of a kind: 0 to 4 for voltage source, capacitor, resistor, inductor, current source
-- class_of      the class of a branch
-- tail_of, head_of, class_found
--               the tail, the head and the class of what stands at a place: node 0 and class 5 if nothing does
-- graph_of p    tail and head of each placed branch; an absent one is drawn from node 0 to node 0, so that it
--               crosses no set of nodes and joins nothing
-- placed p      the places, 0 to 31, that hold a branch
-- class_at p    the class at each place
-- passes t o    what stands at a place is of a kind that passes the test t
-- listed ks k   the kind k is one of the list ks; kinds differ in their class
-- among t p     the placed branches of the kinds that pass the test t
-- Labelled      a list has the labels of the nodes 0 to 15 when the members of S below m are merged
-- alike ls a    the nodes with the label that the node a has in the list
use Rattle.std.specs.Prelude.{◌≡◌, ℕ, ◌<◌, Bool, false, ◌&&◌, List, length, is_some, Some, None, Option, ◌==◌, nat_lt, slice_index}
use Rattle.std.specs.List.{list_any}
use Rattle.sheet.specs.declared.branch.Branch.{Branch}
use Rattle.sheet.specs.declared.kind.Kind.{Kind}
use Rattle.sheet.specs.declared.kind.Kind.TheVariants.{Resistor, Inductor, Capacitor, VoltageSource, CurrentSource}
use Rattle.sheet.specs.declared.plan.Plan.{Plan}
use Rattle.sheet.specs.Plans.{branch_at}
use Rattle.graphs.specs.Graph.{Graph, Set}
use Rattle.graphs.specs.Labels.{label}

abbrev pub kind_class : Kind → ℕ
kind_class VoltageSource = 0
kind_class Capacitor = 1
kind_class Resistor = 2
kind_class Inductor = 3
kind_class CurrentSource = 4

abbrev pub class_of : Branch → ℕ
class_of b = kind_class b.kind

abbrev pub tail_of : Option Branch → ℕ
tail_of None = 0
tail_of (Some b) = b.ends.tail

abbrev pub head_of : Option Branch → ℕ
head_of None = 0
head_of (Some b) = b.ends.head

abbrev pub class_found : Option Branch → ℕ
class_found None = 5
class_found (Some b) = class_of b

unfoldable pub graph_of : Plan → Graph
graph_of p = record { tail = λ k. tail_of (branch_at p k); head = λ k. head_of (branch_at p k) }

unfoldable pub placed : Plan → Set
placed p k = nat_lt k 32 && is_some (branch_at p k)

unfoldable pub class_at : Plan → ℕ → ℕ
class_at p k = class_found (branch_at p k)

abbrev pub passes : (Kind → Bool) → Option Branch → Bool
passes test None = false
passes test (Some b) = test b.kind

abbrev pub listed : List Kind → Kind → Bool
listed kinds kind = list_any (λ one. kind_class one == kind_class kind) kinds

unfoldable pub among : (Kind → Bool) → Plan → Set
among test p k = nat_lt k 32 && passes test (branch_at p k)

pub record Labelled (g : Graph) (S : Set) (m : ℕ) (ls : List ℕ) : Type 0 where
  pub all : length ls ≡ 16
  pub each : (x : ℕ) → x < 16 → slice_index ls x ≡ label g S m x

abbrev pub alike : List ℕ → ℕ → Set
alike ls a x = slice_index ls a == slice_index ls x
