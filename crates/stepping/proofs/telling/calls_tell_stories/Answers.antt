use Rattle.stepping.proofs.Beginning.{calls_tell_stories}
use Rattle.stepping.proofs.telling.calls_tell_stories.Goals as goal

pub returns : goal.returns
returns g c = calls_tell_stories g.N.Arithmetic.ops
