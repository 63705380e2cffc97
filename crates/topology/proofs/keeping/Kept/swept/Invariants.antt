use Rattle.std.proofs.Common.{◌≡◌}
use Rattle.graphs.specs.Greedy.{kept, of_class, members}
use Rattle.networks.specs.Networks.{kind_class, graph_of, placed, class_at}
use Rattle.networks.specs.Words.{bits}
use Rattle.topology.proofs.keeping.Kept.swept.Given as goal

abbrev pub invariant-loop-k : goal.invariant-loop-k
invariant-loop-k l =
    (l.kept.plan.now ≡ l.fn.self.plan.now)
    × (bits l.kept.word ≡ kept (graph_of l.fn.self.plan.now) 32 (members (of_class (class_at l.fn.self.plan.now) (kind_class l.kind) (placed l.fn.self.plan.now)) l.k) (bits l.fn.self.word))
