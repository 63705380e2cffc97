-- The tree's call among those that show something. Assumes nothing.
--
-- CallShows    for some w the tree's call is the one that shows w
use Rattle.std.specs.Prelude.{◌≡◌}
use Rattle.sheet.specs.declared.plan.Plan.{Plan}
use Rattle.topology.specs.Trees.{tree_of}
use Rattle.stories.specs.Steps.{Showing, tree_showing}

abbrev pub CallShows : Type 0
CallShows = (w : Showing) × ((p : Plan) → tree_of p ≡ tree_showing w p)
