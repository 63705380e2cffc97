use Rattle.stories.proofs.Theorem.{theorem_of_stories, theorem_showing}
use Rattle.stories.proofs.theorem_of_stories.Goals as goal

pub returns : goal.returns
returns g c = record { by_call = λ e. theorem_of_stories (g.met.N.Arithmetic.lawful e); showing = λ e. theorem_showing (g.met.N.Arithmetic.lawful e) }
