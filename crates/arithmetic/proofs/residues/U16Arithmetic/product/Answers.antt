use Rattle.std.proofs.Common.{◌∙◌}
use Rattle.arithmetic.specs.ResidueLaws.{of_product}
use Rattle.arithmetic.proofs.residues.U16Arithmetic.product.Goals as goal

pub returns : goal.returns
returns c = record { meaning = c.remainder.ensures.meaning ∙ of_product c.args.self c.args.other; below = c.remainder.ensures.below }
