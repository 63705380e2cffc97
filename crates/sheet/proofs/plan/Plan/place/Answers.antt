use Rattle.std.proofs.Common.{rules}
use Rattle.sheet.proofs.Meanings.{both_ways}
use Rattle.sheet.proofs.plan.Plan.place.Goals as goal

pub returns-in_err-branch : goal.returns-in_err-branch
returns-in_err-branch g c = both_ways g.N.Arithmetic.ops g.N.Arithmetic.mean g.N.Arithmetic.nil g.met.N.Arithmetic.nought (search rules)

pub returns : goal.returns
returns g c = both_ways g.N.Arithmetic.ops g.N.Arithmetic.mean g.N.Arithmetic.nil g.met.N.Arithmetic.nought (search rules)
