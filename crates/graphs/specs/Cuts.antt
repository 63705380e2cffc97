-- Cuts, the cut and loop rows of a tree, and the incidence of nodes and branches. Assumes nothing.
use Rattle.std.specs.Prelude.{ℕ, Bool, true, false, cond, ◌&&◌, ◌==◌}
use Rattle.graphs.specs.Graph.{Graph, Set, without, Sign, plus, none, minus}
use Rattle.graphs.specs.Labels.{joins}

-- one of the two and not the other
abbrev pub just_one : Bool → Bool → Bool
just_one true true = false
just_one true false = true
just_one false true = true
just_one false false = false

-- the cut of a set N of nodes: the branches of P with just one end in N
abbrev pub cut : Graph → Set → Set → Set
cut g P N k = P k && just_one (N (g.tail k)) (N (g.head k))

-- plus for the first alone, minus for the second alone
abbrev pub diff : Bool → Bool → Sign
diff true true = none
diff true false = plus
diff false true = minus
diff false false = none

-- how a branch stands to a set of nodes: it leaves it, it enters it, or neither
abbrev pub leaves : Graph → Set → ℕ → Sign
leaves g N k = diff (N (g.tail k)) (N (g.head k))

-- the nodes on the side of t's tail when t is taken out of S
abbrev pub side : Graph → Set → ℕ → ℕ → Set
side g S m t x = joins g (without S t) m (g.tail t) x

-- the cut row of t: how each branch stands to that side
unfoldable pub cut_row : Graph → Set → ℕ → ℕ → ℕ → Sign
cut_row g S m t k = leaves g (side g S m t) k

-- the other way
abbrev pub turned : Sign → Sign
turned plus = minus
turned none = none
turned minus = plus

-- the loop row of a link k: k itself its own way, and each branch of S as the loop of k passes it
unfoldable pub loop_row : Graph → Set → ℕ → ℕ → ℕ → Sign
loop_row g S m k j = cond (j == k) plus (cond (S j) (turned (cut_row g S m j k)) none)

-- the node x and the branch k: plus at the tail, minus at the head, none where both or neither
abbrev pub incidence : Graph → ℕ → ℕ → Sign
incidence g x k = diff (x == g.tail k) (x == g.head k)
