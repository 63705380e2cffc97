use Rattle.std.proofs.Common.{◌≡◌, ℕ, ◌<◌, map}
use Rattle.graphs.specs.Graph.{Set, ◌∈◌}
use Rattle.networks.specs.Words.{bits}
use Rattle.assembly.proofs.Touching.{Touching}
use Rattle.assembly.proofs.values.values_at.Given as goal

abbrev pub invariant-loop-k : goal.invariant-loop-k
invariant-loop-k g l =
    let m = g.N.Arithmetic.mean in
    let o = g.N.Arithmetic.ops in
    (R : Set) (x : ℕ → _) → bits l.members ≡ R →
    ((k : ℕ) (y : _) → k < 32 → k ∈ R → goal.F-post g l.value k y → m y ≡ x k) →
    Touching o (λ k a. x k) R (bits l.k-iterator.left) (map m l.initial.values) (map m l.values)
