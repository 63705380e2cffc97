-- What holds of walks, loops, trees, cuts and their rows in every graph: the statements that the crate proves. Assumes nothing.
use Rattle.std.specs.Prelude.{◌≡◌, ℕ, suc, ◌+◌, ◌<◌, ◌≤◌, false, ◌↔◌, List, ◌∷◌, ◌++◌, ◌≢◌}
use Rattle.graphs.specs.Graph.{Graph, Set, ◌∈◌, ◌⊆◌, with, without, both, count, Below, Ends, Walk, Spans, Trail, listed, Loop, LoopAlong, way_around, LoopFree, Independent, Tree, plus, none}
use Rattle.graphs.specs.Labels.{label, components}
use Rattle.graphs.specs.Cuts.{cut, side, cut_row, loop_row, incidence}
use Rattle.graphs.specs.Greedy.{greedy, Sorted, members, in_order, up_to, of_class, LateCut, Proper}
use Rattle.graphs.specs.Groups.{Group, sum, sum_over, times, fall}

-- nodes are joined exactly if they have one label, the least node of their part
pub record Joining (g : Graph) (S : Set) (m : ℕ) : Type 0 where
  pub exactly : (a c : ℕ) → Walk g S a c ↔ (label g S m a ≡ label g S m c)
  pub reaches : (x : ℕ) → Walk g S x (label g S m x)
  pub least : (a c : ℕ) → Walk g S a c → label g S m a ≤ c

-- loops, and the branch that closes one
pub record Keeping (g : Graph) (S : Set) : Type 0 where
  pub shortens : (a c : ℕ) → Walk g S a c → (w : Walk g S a c) × Trail w
  pub exactly : LoopFree g S ↔ Independent g S
  pub keeps : (k : ℕ) → LoopFree g S → (Spans g S k → ⊥) → LoopFree g (with S k)
  pub closes : (k : ℕ) → S k ≡ false → Spans g S k → LoopAlong g S k
  pub is_loop : (k : ℕ) → LoopAlong g S k → Loop g (with S k)

-- how many parts there are, and the rank bound
pub record Counting (g : Graph) (S : Set) (m n : ℕ) : Type 0 where
  pub lowers : (k : ℕ) → Below m (with S k) → g.tail k < n → g.head k < n → (Spans g S k → ⊥) → components g S m n ≡ suc (components g (with S k) m n)
  pub stays : (k : ℕ) → Below m (with S k) → Spans g S k → components g (with S k) m n ≡ components g S m n
  pub forest : LoopFree g S → Ends n g S → components g S m n + count S m ≡ n
  pub rank : (F : Set) → LoopFree g S → LoopFree g F → Below m F → Ends n g S → Ends n g F → ((k : ℕ) → k ∈ S → Spans g F k) → count S m ≤ count F m

-- the branches P are below m with ends below n, and the list ks goes through them class by class
pub record Listing (g : Graph) (m n : ℕ) (P : Set) (class : ℕ → ℕ) (ks : List ℕ) : Type 0 where
  pub below : Below m P
  pub ends : Ends n g P
  pub lists : (k : ℕ) → listed ks k ≡ P k
  pub sorted : Sorted class ks

-- the greedy tree is a tree, and the best one by classes
pub record BestTree (g : Graph) (m : ℕ) (P : Set) (class : ℕ → ℕ) (ks : List ℕ) : Type 0 where
  pub tree : Tree g P (greedy g m ks)
  -- what is kept of any list joins the ends of each branch of it
  pub spans : (fs : List ℕ) (k : ℕ) → k ∈ listed fs → Spans g (greedy g m fs) k
  -- a branch is kept exactly if those kept before it do not join its ends
  pub turn : (fs rs : List ℕ) (k : ℕ) → ks ≡ fs ++ (k ∷ rs) → listed fs k ≡ false → k ∈ greedy g m ks ↔ (Spans g (greedy g m fs) k → ⊥)
  -- of the front of the list, what the front alone would keep; and no loop-free set has more of it
  pub front : (fs rs : List ℕ) → ks ≡ fs ++ rs → (k : ℕ) → both (greedy g m ks) (listed fs) k ≡ greedy g m fs k
  pub front_most : (fs rs : List ℕ) → ks ≡ fs ++ rs → (T : Set) → LoopFree g T → count (both T (listed fs)) m ≤ count (both (greedy g m ks) (listed fs)) m
  pub most : (T : Set) (c : ℕ) → T ⊆ P → LoopFree g T → count (up_to class c T) m ≤ count (up_to class c (greedy g m ks)) m
  -- a branch that is not kept closes a loop with kept ones of its class or lower
  pub refused : (k : ℕ) → k ∈ P → greedy g m ks k ≡ false → LoopAlong g (up_to class (class k) (greedy g m ks)) k
  -- a kept branch above the class c is in a cut of such branches
  pub late : (c k : ℕ) → k ∈ greedy g m ks → c < class k → LateCut g class c P m k

-- the classes being 0 to 4: the greedy tree is proper if any is, with the most of class 1 and the fewest of class 3
pub record BestProper (g : Graph) (m : ℕ) (P : Set) (class : ℕ → ℕ) (ks : List ℕ) : Type 0 where
  pub exactly : ((T : Set) × Proper g class P T) ↔ Proper g class P (greedy g m ks)
  pub most : (T : Set) → Proper g class P T → count (of_class class 1 T) m ≤ count (of_class class 1 (greedy g m ks)) m
  pub fewest : (T : Set) → Proper g class P T → count (of_class class 3 (greedy g m ks)) m ≤ count (of_class class 3 T) m

-- the cut rows of a loop-free set S, and the rows of the loops along links
pub record Rows (g : Graph) (S : Set) (m : ℕ) : Type 0 where
  pub sides : (t x : ℕ) → x ∈ side g S m t ↔ Walk g (without S t) (g.tail t) x
  pub row : (P : Set) (t k : ℕ) → k ∈ cut g P (side g S m t) ↔ ((k ∈ P) × (cut_row g S m t k ≢ none))
  pub own : (t : ℕ) → t ∈ S → cut_row g S m t t ≡ plus
  pub others : (t k : ℕ) → k ∈ S → (k ≢ t) → cut_row g S m t k ≡ none
  pub alone : (P : Set) (t k : ℕ) → k ∈ S → k ∈ cut g P (side g S m t) → k ≡ t
  pub loop_row_lem : (k : ℕ) (l : LoopAlong g S k) (j : ℕ) → way_around l j ≡ loop_row g S m k j

-- the rows of a loop-free set at work, in any group
pub record RowLaws {M : Type 0} (G : Group M) (g : Graph) (S : Set) (m n : ℕ) : Type 0 where
  -- over a branch whose ends S joins, a function of nodes falls as the cut rows say from its falls over S
  pub falls : (f : ℕ → M) (k : ℕ) → Spans g S k → fall G g f k ≡ sum_over G S (λ t. times G (cut_row g S m t k) (fall G g f t)) m
  -- incidence is its columns in S times the cut rows
  pub columns : (u : M) (x k : ℕ) → Spans g S k → times G (incidence g x k) u ≡ sum_over G S (λ t. times G (cut_row g S m t k) (times G (incidence g x t) u)) m
  -- a function of nodes, summed by a column of incidence, is its fall from tail to head
  pub transposed : (f : ℕ → M) (k : ℕ) → g.tail k < n → g.head k < n → sum G (λ x. times G (incidence g x k) (f x)) n ≡ fall G g f k
  -- a cut row is the sum of the incidence rows of the nodes on the tail's side
  pub side-sum : (u : M) (t k : ℕ) → g.tail k < n → g.head k < n → sum_over G (side g S m t) (λ x. times G (incidence g x k) u) n ≡ times G (cut_row g S m t k) u
  -- around a link's loop a function of nodes falls by nothing
  pub around : (f : ℕ → M) (k : ℕ) → k < m → S k ≡ false → Spans g S k → sum G (λ j. times G (loop_row g S m k j) (fall G g f j)) m ≡ G.zero
  -- incidence times a loop row is zero
  pub loop_incidence : (u : M) (x k : ℕ) → k < m → S k ≡ false → Spans g S k → sum G (λ j. times G (loop_row g S m k j) (times G (incidence g x j) u)) m ≡ G.zero
  -- loop rows and cut rows are orthogonal
  pub orthogonal : (u : M) (t k : ℕ) → k < m → S k ≡ false → Spans g S k → sum G (λ j. times G (loop_row g S m k j) (times G (cut_row g S m t j) u)) m ≡ G.zero

-- values on the branches of P, seen from a tree S of P
pub record Balances {M : Type 0} (G : Group M) (g : Graph) (P S : Set) (m n : ℕ) : Type 0 where
  -- they balance at every node exactly if they balance over every cut of the tree
  pub nodes_cuts : (i : ℕ → M) → ((x : ℕ) → x < n → sum_over G P (λ k. times G (incidence g x k) (i k)) m ≡ G.zero) ↔ ((t : ℕ) → t ∈ S → sum_over G P (λ k. times G (cut_row g S m t k) (i k)) m ≡ G.zero)
  -- they are the falls of some function of nodes exactly if the tree's give each link's
  pub falls_links : (v : ℕ → M) → ((f : ℕ → M) × ((k : ℕ) → k ∈ P → v k ≡ fall G g f k)) ↔ ((k : ℕ) → k ∈ P → S k ≡ false → v k ≡ sum_over G S (λ t. times G (cut_row g S m t k) (v t)) m)
  -- and that is to sum to nothing around each link's loop
  pub links_loops : (v : ℕ → M) (k : ℕ) → k ∈ P → S k ≡ false → (v k ≡ sum_over G S (λ t. times G (cut_row g S m t k) (v t)) m) ↔ (sum G (λ j. times G (loop_row g S m k j) (v j)) m ≡ G.zero)

-- all of it: of every graph, every set of branches, every tree, every list sorted by classes, and every group on N
pub record TheoryOfTrees (N : Type 0) : Type 0 where
  pub joining : (g : Graph) (S : Set) (m : ℕ) → Below m S → Joining g S m
  pub keeping : (g : Graph) (S : Set) → Keeping g S
  pub counting : (g : Graph) (S : Set) (m n : ℕ) → Counting g S m n
  pub as_many : (g : Graph) (P S T : Set) (m n : ℕ) → Below m P → Ends n g P → Tree g P S → Tree g P T → count S m ≡ count T m
  pub listing : (g : Graph) (m n c : ℕ) (P : Set) (class : ℕ → ℕ) → Below m P → Ends n g P → ((k : ℕ) → k ∈ P → class k < c) → Listing g m n P class (in_order class P m c)
  -- within a class lower numbers come first
  pub ascending : (S : Set) (m : ℕ) → Sorted (λ k. k) (members S m)
  pub best : (g : Graph) (m n : ℕ) (P : Set) (class : ℕ → ℕ) (ks : List ℕ) → Listing g m n P class ks → BestTree g m P class ks
  pub proper : (g : Graph) (m n : ℕ) (P : Set) (class : ℕ → ℕ) (ks : List ℕ) → Listing g m n P class ks → ((k : ℕ) → k ∈ P → class k ≤ 4) → BestProper g m P class ks
  pub rows : (g : Graph) (S : Set) (m : ℕ) → Below m S → LoopFree g S → Rows g S m
  pub laws : (G : Group N) (g : Graph) (S : Set) (m n : ℕ) → Below m S → LoopFree g S → RowLaws G g S m n
  pub balances : (G : Group N) (g : Graph) (P S : Set) (m n : ℕ) → Below m P → Ends n g P → Tree g P S → Balances G g P S m n
