use Rattle.std.proofs.Common.{◌≡◌, map}
use Rattle.sheet.specs.Meanings.{meant_row}
use Rattle.networks.specs.Networks.{placed}
use Rattle.networks.specs.Words.{bits}
use Rattle.stepping.specs.Steps.{given, Others}
use Rattle.assembly.proofs.Members.{Going}
use Rattle.stepping.proofs.Rows.{renewing}
use Rattle.stepping.proofs.figures.Figures.renew_rows.Given as given'

abbrev pub invariant-loop-k : given'.invariant-loop-k
invariant-loop-k g l =
    let m = g.N.Arithmetic.mean in
    let p = l.framed.plan.now in
    Going (renewing g.N.Arithmetic.ops (map m l.self.currents.now) (map m l.self.voltages.now)) (placed p) (bits l.k-iterator.left) (map (meant_row m) l.initial.rows) (map (meant_row m) l.rows)
    × (map given l.rows ≡ map given l.initial.rows)
    × Others p l.initial.rows l.rows
