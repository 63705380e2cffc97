use Rattle.std.proofs.Common.{◌≡◌, ◌++◌, map, take, drop}
use Rattle.graphs.specs.Labels.{merge}
use Rattle.networks.proofs.labels.Labels.join.Given as goal

abbrev pub invariant-loop-label : goal.invariant-loop-label
invariant-loop-label l = l.label-items ≡ map (merge l.p l.q) (take l.label-index l.fn.self.of) ++ drop l.label-index l.fn.self.of
