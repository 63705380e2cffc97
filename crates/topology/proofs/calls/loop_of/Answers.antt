use Rattle.std.proofs.Common.{sym, ◌∙◌}
use Rattle.networks.proofs.Networks.{placed_below}
use Rattle.topology.proofs.calls.loop_of.Goals as goal

pub loop_along-requires : goal.loop_along-requires
loop_along-requires c = placed_below c.args.plan.now c.args.number (sym c.is_placed.ensures ∙ c.if-is_placed.true)
