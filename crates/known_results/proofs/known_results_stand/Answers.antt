use Rattle.known_results.proofs.Results.{known}
use Rattle.known_results.proofs.known_results_stand.Goals as goal

pub returns : goal.returns
returns g c = known g.N.Arithmetic.ops
