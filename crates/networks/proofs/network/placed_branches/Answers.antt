use Rattle.std.proofs.Common.{◌∙◌, rules}
use Rattle.networks.specs.Networks.{placed}
use Rattle.networks.proofs.Bits.{under_all}
use Rattle.networks.proofs.Networks.{placed_below}
use Rattle.networks.proofs.network.placed_branches.Goals as goal

pub returns : goal.returns
returns c = c.numbers_where.ensures (placed c.args.plan.now) (λ k b lt h. search rules) ∙ under_all (placed c.args.plan.now) 32 (placed_below c.args.plan.now)
