use Rattle.std.proofs.Common.{◌∙◌}
use Rattle.networks.proofs.Networks.{among_up_to, voltage_low}
use Rattle.networks.proofs.network.voltage_sources.Goals as goal

pub returns : goal.returns
returns c = c.branches_of.ensures ∙ among_up_to c.args.plan.now _ 0 voltage_low
