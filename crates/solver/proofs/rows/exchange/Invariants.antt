use Rattle.std.proofs.Common.{◌+◌, map}
use Rattle.linear.proofs.Turns.{Left}
use Rattle.solver.specs.Rows.{two, swap_at, swap_all}
use Rattle.solver.proofs.rows.exchange.Given as goal

abbrev pub invariant-loop-column : goal.invariant-loop-column
invariant-loop-column g l =
    let o = g.N.Arithmetic.ops in
    let m = g.N.Arithmetic.mean in
    Left (swap_at o) (l.unknowns + 1) l.column (two (map m l.upper) (map m l.lower)) (swap_all o l.unknowns (map m l.initial.upper) (map m l.initial.lower))
