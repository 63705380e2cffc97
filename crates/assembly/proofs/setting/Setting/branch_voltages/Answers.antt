use Rattle.std.proofs.Common.{map, sym, ap, ◌∙◌}
use Rattle.networks.specs.Words.{bits}
use Rattle.networks.proofs.Firsts.{first_member}
use Rattle.assembly.specs.Figures.{found}
use Rattle.assembly.proofs.Linking.{linking, links_on, all_linked}
use Rattle.assembly.proofs.setting.Setting.branch_voltages.Goals as goal

pub loop-t-init : goal.loop-t-init
loop-t-init g c parts fr levels =
    linking g.N.Arithmetic.ops parts _ _ _ (ap (λ i. bits i.left) c.into_iter-t-iterator.ensures.into_iter_gives ∙ ap bits c.members_of-t-items.ensures ∙ fr.tree) (c.tree_voltages-voltages.ensures parts fr levels)

pub loop-t-preserved : goal.loop-t-preserved
loop-t-preserved g c parts fr levels =
    let o = g.N.Arithmetic.ops in
    let m = g.N.Arithmetic.mean in
    let left = bits c.loop-t.t-iterator.left in
    let t = c.in-Some.t in
    let took = c.in-Some.ensures.steps in
    let i = c.loop-t.invariant parts fr levels in
    links_on o parts (found o (map m c.args.self.now.area.now) c.args.unknowns) left _ _ _ t i took.0 took.1 c.take_to_links.ensures.length
    (c.take_to_links.ensures.links parts fr (i.within t (first_member left 0 32 t (sym took.0)).0))

pub returns : goal.returns
returns g c parts fr levels =
    let o = g.N.Arithmetic.ops in
    let m = g.N.Arithmetic.mean in
    all_linked o parts (found o (map m c.args.self.now.area.now) c.args.unknowns) _ _ (c.loop-t.invariant parts fr levels) c.in-None.ensures.steps.0
