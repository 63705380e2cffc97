use Rattle.std.proofs.Common.{◌≡◌, ℕ, ◌<◌, Bool}
use Rattle.graphs.specs.Graph.{Set}
use Rattle.networks.specs.Words.{bits, under}
use Rattle.networks.proofs.words.numbers_where.Given as goal

abbrev pub invariant-loop-k : goal.invariant-loop-k
invariant-loop-k g l = (S : Set) → ((k : ℕ) (b : Bool) → k < 32 → goal.F-post g l.passes k b → b ≡ S k) → bits l.word ≡ under S l.k
