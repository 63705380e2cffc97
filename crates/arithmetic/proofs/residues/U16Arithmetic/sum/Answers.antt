use Rattle.std.proofs.Common.{◌∙◌}
use Rattle.arithmetic.specs.ResidueLaws.{of_sum}
use Rattle.arithmetic.proofs.residues.U16Arithmetic.sum.Goals as goal

pub returns : goal.returns
returns c = record { meaning = c.remainder.ensures.meaning ∙ of_sum c.args.self c.args.other; below = c.remainder.ensures.below }
