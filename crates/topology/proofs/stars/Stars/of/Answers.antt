use Rattle.std.proofs.Common.{rules}
use Rattle.networks.specs.Networks.{graph_of}
use Rattle.topology.proofs.stars.Stars.of.Goals as goal

pub returns : goal.returns
returns c =
    let g = graph_of c.args.plan.now in
    record {
      leaving = c.star.ensures g.tail (λ k x lt h. search rules);
      entering = c.star-2.ensures g.head (λ k x lt h. search rules);
    }
