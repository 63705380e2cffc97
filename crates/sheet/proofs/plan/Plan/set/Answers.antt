use Rattle.std.proofs.Common.{rules}
use Rattle.sheet.proofs.Meanings.{both_ways}
use Rattle.sheet.proofs.plan.Plan.set.Goals as goal

pub returns : goal.returns
returns g c = both_ways g.N.Arithmetic.ops g.N.Arithmetic.mean g.N.Arithmetic.nil g.met.N.Arithmetic.nought (search rules)
