use Rattle.std.proofs.Common.{ap, ◌∙◌}
use mathlib.Core.Path.{fun_ext}
use Rattle.networks.specs.Networks.{graph_of, alike}
use Rattle.topology.specs.Rows.{shown, cut_from}
use Rattle.networks.specs.Words.{bits}
use Rattle.networks.proofs.Networks.{leaves_labelled, tail_node, head_node}
use Rattle.topology.proofs.rows.cut_at.Goals as goal

pub returns : goal.returns
unfolding cut_from
returns c = λ stars.
    let p = c.args.plan.now in
    let g = graph_of p in
    let ls = c.joined-labels.result.of in
    let x = c.args.node.number in
    c.across.ensures (λ k. alike ls x (g.tail k)) (λ k. alike ls x (g.head k))
    (c.reach.ensures g.tail (tail_node p) stars.leaving) (c.reach-2.ensures g.head (head_node p) stars.entering)
    ∙ ap shown (fun_ext (leaves_labelled p (bits c.args.word) 32 ls c.joined-labels.ensures x c.args.node.within))
