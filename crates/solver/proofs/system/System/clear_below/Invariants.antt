use Rattle.std.proofs.Common.{◌≡◌, map}
use Rattle.linear.specs.Elimination.{lose_row, clear}
use Rattle.linear.proofs.Turns.{Left}
use Rattle.solver.proofs.system.System.clear_below.Given as goal

abbrev pub invariant-loop-row : goal.invariant-loop-row
invariant-loop-row g l =
    let o = g.N.Arithmetic.ops in
    let m = g.N.Arithmetic.mean in
    let w = map m l.initial.self.work.now in
    let n = l.initial.self.unknowns in
    record {
      lender : l.self.work.ghost_name ≡ l.initial.self.work.ghost_name;
      unknowns : l.self.unknowns ≡ n;
      left : Left (lose_row o n l.pivot) n l.row (map m l.self.work.now) (clear o n l.pivot w);
    }
