use Rattle.std.proofs.lemmas.List.{map-set}
use Rattle.linear.proofs.area.put.Goals as goal

pub returns-then-place-area : goal.returns-then-place-area
returns-then-place-area g c = map-set _ _ _ _
