use Rattle.std.proofs.Common.{rules}
use Rattle.stories.specs.Steps.{flow_of}
use Rattle.assembly.proofs.Touching.{members_filled}
use Rattle.assembly.proofs.setting.Setting.flows_of.Goals as goal

pub returns : goal.returns
returns g c parts x fr holds h =
    let o = g.N.Arithmetic.ops in
    members_filled o parts.feeding (flow_of o parts x) _ (c.values_at.ensures _ _ fr.feeding (λ k y l i called. search rules))
