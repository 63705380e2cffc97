use Rattle.std.proofs.Common.{refl, ap, ◌∙◌}
use Rattle.stories.specs.Assembly.{through, levelled, right_of}
use Rattle.networks.specs.Words.{bits}
use Rattle.assembly.proofs.Members.{turn, begun, taken_in, goes_on, ended}
use Rattle.assembly.proofs.setting.Setting.right_of.Goals as goal

pub loop-v-init : goal.loop-v-init
loop-v-init g c parts sets mt = begun (levelled g.N.Arithmetic.ops parts c.args.t) parts.fixed _ _ _ (ap (λ i. bits i.left) c.into_iter-v-iterator.ensures.into_iter_gives ∙ ap bits c.members_of-v-items.ensures ∙ sets.frames.fixed) refl

pub loop-v-preserved : goal.loop-v-preserved
loop-v-preserved g c parts sets mt =
    let f = levelled g.N.Arithmetic.ops parts c.args.t in
    let took = c.in-Some.ensures.steps in
    let i = c.loop-v.invariant parts sets mt in
    let m = taken_in f parts.fixed _ _ _ _ i took.0 in
    goes_on f parts.fixed _ _ _ _ _ _ i took.0 took.1 (c.level_by-sum.ensures parts sets mt m.1 m.0)

pub returns : goal.returns
unfolding right_of
returns g c parts sets mt =
    let f = levelled g.N.Arithmetic.ops parts c.args.t in
    ended f parts.fixed _ _ _ (c.loop-v.invariant parts sets mt) c.in-None.ensures.steps.0
    ∙ ap (through (turn f parts.fixed) 32) (c.feeds_of-sum.ensures parts sets mt)
