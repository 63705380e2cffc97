use Rattle.networks.specs.Networks.{alike}
use Rattle.networks.specs.Words.{under}
use Rattle.topology.proofs.Crossing.{reach_none}
use Rattle.topology.proofs.stars.reach.Goals as goal

pub loop-x-init : goal.loop-x-init
loop-x-init c = λ e within star k. reach_none (under (λ j. alike c.args.labels.now.of c.args.node.number (e j)) 32) (e k) k
