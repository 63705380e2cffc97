use Rattle.stories.proofs.Theorem.{best_trees}
use Rattle.stories.proofs.best_trees.Goals as goal

pub returns : goal.returns
returns c = best_trees
