use Rattle.std.proofs.Common.{◌≡◌, ℕ, ◌<◌}
use Rattle.graphs.specs.Graph.{◌∈◌, none}
use Rattle.graphs.specs.Graph as graphs
use Rattle.networks.specs.Words.{bits}
use Rattle.topology.specs.declared.sign.Sign.{Sign}
use Rattle.topology.specs.Rows.{sign_of}
use Rattle.topology.proofs.Gathering.{Picked}
use Rattle.topology.proofs.rows.row_of.Given as goal

abbrev pub invariant-loop-k : goal.invariant-loop-k
invariant-loop-k g l =
    (f : ℕ → graphs.Sign) → ((k : ℕ) (x : Sign) → k < 32 → goal.F-post g l.sign k x → sign_of x ≡ f k) →
    ((k : ℕ) → k ∈ bits l.k-iterator.left → k ∈ bits l.members) × Picked f (bits l.members) (bits l.k-iterator.left) l.row
