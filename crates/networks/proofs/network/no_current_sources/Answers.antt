use Rattle.std.proofs.Common.{◌∙◌}
use Rattle.networks.proofs.Networks.{among_up_to, no_current_low}
use Rattle.networks.proofs.network.no_current_sources.Goals as goal

pub returns : goal.returns
returns c = c.branches_of.ensures ∙ among_up_to c.args.plan.now _ 3 no_current_low
