use Rattle.stories.proofs.Called.{call_shows}
use Rattle.stories.proofs.Theorem.{trees_of_stories, trees_showing}
use Rattle.stories.proofs.trees_of_stories.Goals as goal

pub returns : goal.returns
returns g c = record { by_call = trees_of_stories g.N.Arithmetic.ops; showing = trees_showing g.N.Arithmetic.ops; call_shows = call_shows }
