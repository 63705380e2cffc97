use Rattle.std.proofs.Common.{◌≡◌, ◌+◌, ◌-◌, map}
use Rattle.linear.specs.Loops.{steps}
use Rattle.linear.specs.Elimination.{lose_found}
use Rattle.linear.proofs.Turns.{Left}
use Rattle.solver.proofs.system.System.back_row.Given as goal

abbrev pub invariant-loop-column : goal.invariant-loop-column
invariant-loop-column g l =
    let o = g.N.Arithmetic.ops in
    let m = g.N.Arithmetic.mean in
    let w = map m l.initial.self.work.now in
    let n = l.initial.self.unknowns in
    record {
      lender : l.self.work.ghost_name ≡ l.initial.self.work.ghost_name;
      unknowns : l.self.unknowns ≡ n;
      left : Left (lose_found o n l.row) n l.column (map m l.self.work.now) (steps (lose_found o n l.row) (n - (l.row + 1)) (l.row + 1) w);
    }
