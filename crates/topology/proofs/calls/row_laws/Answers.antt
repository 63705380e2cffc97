use Rattle.topology.proofs.Meaning.{matrices}
use Rattle.topology.proofs.calls.row_laws.Goals as goal

pub returns : goal.returns
returns g c = λ G w e. matrices G c.args.plan.now w e
