use Rattle.std.proofs.Common.{map}
use Rattle.sheet.specs.Meanings.{meant_row}
use Rattle.networks.specs.Words.{bits}
use Rattle.stories.specs.Steps.{row_at}
use Rattle.assembly.proofs.Members.{Going}
use Rattle.stepping.proofs.Companions.{storing}
use Rattle.stepping.proofs.companion.store_companions.Given as goal

abbrev pub invariant-loop-k : goal.invariant-loop-k
invariant-loop-k g l =
    let o = g.N.Arithmetic.ops in
    let m = g.N.Arithmetic.mean in
    Going (storing o l.framed.plan.now (m l.h) (row_at o (map (meant_row m) l.rows))) (bits l.framed.frame.feeding) (bits l.k-iterator.left) (map m l.initial.area) (map m l.area)
