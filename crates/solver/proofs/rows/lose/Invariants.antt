use Rattle.std.proofs.Common.{◌+◌, map}
use Rattle.linear.proofs.Turns.{Left}
use Rattle.solver.specs.Rows.{lose_at, lose_all}
use Rattle.solver.proofs.rows.lose.Given as goal

abbrev pub invariant-loop-column : goal.invariant-loop-column
invariant-loop-column g l =
    let o = g.N.Arithmetic.ops in
    let m = g.N.Arithmetic.mean in
    let u = map m l.upper in
    let t = m l.factor in
    Left (lose_at o u t) (l.unknowns + 1) l.column (map m l.lower) (lose_all o u t l.unknowns l.pivot (map m l.initial.lower))
