use Rattle.linear.proofs.Theorem.{linear_systems}
use Rattle.linear.proofs.linear_systems_stand.Goals as goal

pub returns : goal.returns
returns g c e = linear_systems (g.met.N.Arithmetic.lawful e)
