use Rattle.linear.proofs.Depends.{inside}
use Rattle.linear.proofs.solving_stays_inside.Goals as goal

pub returns : goal.returns
returns g c = inside g.N.Arithmetic.ops
