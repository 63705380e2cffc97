use Rattle.std.proofs.Common.{ℕ}
use Rattle.graphs.specs.Graph.{◌∈◌}
use Rattle.networks.specs.Networks.{graph_of, Labelled}
use Rattle.networks.specs.Words.{bits, except}
use Rattle.networks.proofs.labels.Labels.joined.Given as goal

abbrev pub invariant-loop-k : goal.invariant-loop-k
invariant-loop-k l = ((k : ℕ) → k ∈ bits l.k-iterator.left → k ∈ bits l.word) × Labelled (graph_of l.plan) (except (bits l.word) (bits l.k-iterator.left)) 32 l.labels.of
