-- The branches at each node as words. Assumes nothing.
--
-- Star e n ws     a list that has at each node below 16 the word of the numbers k below n with e k there
-- StarsOf         two lists that have at each node the branches that leave it and those that enter it
use Rattle.std.specs.Prelude.{◌≡◌, ℕ, ◌<◌, List, ◌==◌, slice_index_or}
use Rattle.graphs.specs.Graph.{Graph}
use Rattle.networks.specs.Words.{bits, under}

abbrev pub Star : (ℕ → ℕ) → ℕ → List ℕ → Type 0
Star e n ws = (x : ℕ) → x < 16 → bits (slice_index_or ws x 0) ≡ under (λ k. e k == x) n

pub record StarsOf (g : Graph) (ls es : List ℕ) : Type 0 where
  pub leaving : Star g.tail 32 ls
  pub entering : Star g.head 32 es
