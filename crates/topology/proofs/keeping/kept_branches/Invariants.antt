use Rattle.std.proofs.Common.{◌≡◌}
use Rattle.graphs.specs.Greedy.{greedy, in_order}
use Rattle.networks.specs.Networks.{graph_of, placed, class_at}
use Rattle.networks.specs.Words.{bits}
use Rattle.topology.proofs.keeping.kept_branches.Given as goal

abbrev pub invariant-loop-kind : goal.invariant-loop-kind
invariant-loop-kind l = (l.kept.plan.now ≡ l.plan) × (bits l.kept.word ≡ greedy (graph_of l.plan) 32 (in_order (class_at l.plan) (placed l.plan) 32 l.kind-index))
