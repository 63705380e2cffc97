use Rattle.std.proofs.Common.{arith}
use Rattle.std.proofs.lemmas.Bool.{lt-ltb, le-ltb}
use Rattle.networks.specs.Networks.{placed}
use Rattle.networks.proofs.network.is_placed.Goals as goal

pub returns-then-k-lt32 : goal.returns-then-k-lt32
unfolding placed
returns-then-k-lt32 c = grind (arith, lt-ltb)

pub returns-else-k-lt32 : goal.returns-else-k-lt32
unfolding placed
returns-else-k-lt32 c = grind (arith, le-ltb)
