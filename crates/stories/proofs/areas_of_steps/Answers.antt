use Rattle.stories.proofs.Theorem.{any_area}
use Rattle.stories.proofs.areas_of_steps.Goals as goal

pub returns : goal.returns
returns g c = any_area g.N.Arithmetic.ops
