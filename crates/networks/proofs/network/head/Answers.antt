use Rattle.std.proofs.Common.{rules}
use Rattle.networks.specs.Networks.{graph_of}
use Rattle.networks.proofs.network.head.Goals as goal

pub returns : goal.returns
unfolding graph_of
returns c = search rules
