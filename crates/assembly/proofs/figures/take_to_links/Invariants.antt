use Rattle.std.proofs.Common.{map}
use Rattle.stories.specs.Assembly.{taken}
use Rattle.topology.specs.Matrices.{entry}
use Rattle.networks.specs.Words.{bits}
use Rattle.assembly.proofs.Touching.{Touching}
use Rattle.assembly.proofs.figures.take_to_links.Given as goal

abbrev pub invariant-loop-k : goal.invariant-loop-k
invariant-loop-k g l =
    let o = g.N.Arithmetic.ops in
    let m = g.N.Arithmetic.mean in
    Touching o (λ k a. taken o (entry l.row k) (m l.voltage) a) (bits l.signed) (bits l.k-iterator.left) (map m l.initial.voltages) (map m l.voltages)
