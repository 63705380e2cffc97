use Rattle.std.proofs.Common.{◌≡◌, map}
use Rattle.linear.specs.Elimination.{eliminate_column, eliminate}
use Rattle.linear.proofs.Turns.{TriesLeft}
use Rattle.solver.proofs.system.System.eliminate_all.Given as goal

abbrev pub invariant-loop-column : goal.invariant-loop-column
invariant-loop-column g l =
    let o = g.N.Arithmetic.ops in
    let m = g.N.Arithmetic.mean in
    let w = map m l.initial.self.work.now in
    let n = l.initial.self.unknowns in
    record {
      lender : l.self.work.ghost_name ≡ l.initial.self.work.ghost_name;
      unknowns : l.self.unknowns ≡ n;
      left : TriesLeft (eliminate_column o n) n l.column (map m l.self.work.now) (eliminate o n w);
    }
