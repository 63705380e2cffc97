use Rattle.std.proofs.Common.{◌≡◌, ◌∙◌}
use Rattle.graphs.specs.Graph.{without}
use Rattle.networks.specs.Networks.{graph_of}
use Rattle.topology.specs.Rows.{cut_from}
use Rattle.networks.specs.Words.{bits}
use Rattle.topology.proofs.Gathering.{cut-from-side}
use Rattle.topology.proofs.rows.cut_of_branch.Goals as goal

pub returns : goal.returns
returns c =
    let g = graph_of c.args.plan.now in
    let cuts : c.cut.result ≡ cut_from g (without (bits c.args.tree) c.args.t) (g.tail c.args.t) = cc in
    cuts ∙ cut-from-side g (bits c.args.tree) c.args.t
