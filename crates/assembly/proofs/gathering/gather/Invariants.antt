use Rattle.std.proofs.Common.{◌≡◌, ℕ, ◌<◌}
use Rattle.graphs.specs.Graph.{Set, ◌∈◌}
use Rattle.topology.specs.Rows.{sign_of}
use Rattle.networks.specs.Words.{bits}
use Rattle.assembly.proofs.Members.{taking, Going}
use Rattle.assembly.proofs.gathering.gather.Given as goal

abbrev pub invariant-loop-k : goal.invariant-loop-k
invariant-loop-k g l =
    let m = g.N.Arithmetic.mean in
    let o = g.N.Arithmetic.ops in
    (R : Set) (s : ℕ → _) (x : ℕ → _) → bits l.members ≡ R →
    ((k : ℕ) (r : _) → k < 32 → k ∈ R → goal.S-post g l.sign k r → sign_of r ≡ s k) →
    ((k : ℕ) (y : _) → k < 32 → k ∈ R → goal.T-post g l.term k y → m y ≡ x k) →
    Going (taking o s x) R (bits l.k-iterator.left) (m l.initial.sum) (m l.sum)
