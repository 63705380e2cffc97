use Rattle.graphs.proofs.Joint.{theory}
use Rattle.graphs.proofs.theory_of_trees.Goals as goal

pub returns : goal.returns
returns g c = theory _
