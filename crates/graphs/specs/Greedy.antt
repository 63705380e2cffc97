-- Greedy keeping of branches in the order of a list, and classes of branches. Assumes nothing.
use Rattle.std.specs.Prelude.{◌≡◌, ℕ, zero, suc, ◌<◌, ◌≤◌, false, cond, List, [], ◌∷◌, ◌++◌, ◌≢◌, nat_eq, nat_le}
use Rattle.graphs.specs.Graph.{Graph, Set, ◌∈◌, empty, with, both, listed, Tree}
use Rattle.graphs.specs.Labels.{joins}
use Rattle.graphs.specs.Cuts.{cut}

-- S, and k too if that closes no loop
abbrev pub keep : Graph → ℕ → Set → ℕ → Set
keep g m S k = cond (joins g S m (g.tail k) (g.head k)) S (with S k)

-- S and what is kept of the list, first to last
unfoldable pub kept : Graph → ℕ → List ℕ → Set → Set
kept g m [] S = S
kept g m (k ∷ ks) S = kept g m ks (keep g m S k)

-- what is kept of the list from nothing
abbrev pub greedy : Graph → ℕ → List ℕ → Set
greedy g m ks = kept g m ks empty

-- the list goes from lower classes to higher ones
unfoldable pub Sorted : (ℕ → ℕ) → List ℕ → Type 0
Sorted class [] = Unit {0}
Sorted class (k ∷ ks) = ((j : ℕ) → j ∈ listed ks → class k ≤ class j) × Sorted class ks

-- the members of class c at most
abbrev pub up_to : (ℕ → ℕ) → ℕ → Set → Set
up_to class c S = both S (λ k. nat_le (class k) c)

-- the members of class c
abbrev pub of_class : (ℕ → ℕ) → ℕ → Set → Set
of_class class c S = both S (λ k. nat_eq (class k) c)

-- the numbers below m that are in S, ascending
unfoldable pub members : Set → ℕ → List ℕ
members S zero = []
members S (suc m) = members S m ++ cond (S m) (m ∷ []) []

-- the members of P below m of the classes below c: lower classes first, lower numbers first in a class
unfoldable pub in_order : (ℕ → ℕ) → Set → ℕ → ℕ → List ℕ
in_order class P m zero = []
in_order class P m (suc c) = in_order class P m c ++ members (of_class class c P) m

-- the nodes that branches of P of class c at most reach from the tail of k
abbrev pub reached : Graph → (ℕ → ℕ) → ℕ → Set → ℕ → ℕ → Set
reached g class c P m k x = joins g (up_to class c P) m (g.tail k) x

-- the cut of those nodes: k leaves them, and all that it is made of is above class c
pub record LateCut (g : Graph) (class : ℕ → ℕ) (c : ℕ) (P : Set) (m k : ℕ) : Type 0 where
  pub inside : g.tail k ∈ reached g class c P m k
  pub outside : reached g class c P m k (g.head k) ≡ false
  pub member : k ∈ cut g P (reached g class c P m k)
  pub above : (j : ℕ) → j ∈ cut g P (reached g class c P m k) → c < class j

-- a tree with every branch of class 0 and none of class 4
pub record Proper (g : Graph) (class : ℕ → ℕ) (P S : Set) : Type 0 where
  pub tree : Tree g P S
  pub every : (k : ℕ) → k ∈ P → class k ≡ 0 → k ∈ S
  pub never : (k : ℕ) → k ∈ S → class k ≢ 4
