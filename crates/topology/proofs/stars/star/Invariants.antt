use Rattle.std.proofs.Common.{◌≡◌, ℕ, ◌<◌, length}
use Rattle.networks.specs.declared.network.Node.{Node}
use Rattle.topology.specs.Stars.{Star}
use Rattle.topology.proofs.stars.star.Given as goal

abbrev pub invariant-loop-k : goal.invariant-loop-k
invariant-loop-k g l = (length l.words ≡ 16) × ((e : ℕ → ℕ) → ((k : ℕ) (x : Node) → k < 32 → goal.F-post g l.end k x → x.number ≡ e k) → Star e l.k l.words)
