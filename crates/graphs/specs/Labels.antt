-- The least node joined with a node, computed; and how many parts a set of branches leaves. Assumes nothing.
use Rattle.std.specs.Prelude.{ℕ, zero, suc, min, max, Bool, cond, ◌==◌}
use Rattle.graphs.specs.Graph.{Graph, Set, count}

-- the labels p and q become the smaller of the two
unfoldable pub merge : ℕ → ℕ → ℕ → ℕ
merge p q l = cond (l == max p q) (min p q) l

-- the least node joined with x over the members of S below m: branch by branch, the labels of its ends are merged
unfoldable pub label : Graph → Set → ℕ → ℕ → ℕ
label g S zero x = x
label g S (suc m) x =
    let before = label g S m in
    let merged = merge (before (g.tail m)) (before (g.head m)) (before x) in
    cond (S m) merged (before x)

-- the members of S below m join a and c
abbrev pub joins : Graph → Set → ℕ → ℕ → ℕ → Bool
joins g S m a c = label g S m a == label g S m c

-- the nodes that are their own label: one in each part
abbrev pub own : Graph → Set → ℕ → Set
own g S m x = label g S m x == x

-- how many parts the nodes below n are in
abbrev pub components : Graph → Set → ℕ → ℕ → ℕ
components g S m n = count (own g S m) n
