use Rattle.std.proofs.Common.{map}
use Rattle.networks.specs.Networks.{placed}
use Rattle.networks.specs.Words.{bits}
use Rattle.stepping.specs.Steps.{unsound_at}
use Rattle.stepping.proofs.Asking.{Asked}
use Rattle.stepping.proofs.figures.Figures.are_unsound.Given as goal

abbrev pub invariant-loop-k : goal.invariant-loop-k
invariant-loop-k g l =
    let m = g.N.Arithmetic.mean in
    let p = l.framed.plan.now in
    Asked (unsound_at g.N.Arithmetic.ops p (map m l.self.currents.now) (map m l.self.voltages.now)) (placed p) (bits l.k-iterator.left)
