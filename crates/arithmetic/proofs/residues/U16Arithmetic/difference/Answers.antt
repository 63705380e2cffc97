use Rattle.std.proofs.Common.{◌-◌, ◌%◌, ◌∙◌}
use Rattle.arithmetic.specs.ResidueLaws.{of_left}
use Rattle.arithmetic.proofs.residues.U16Arithmetic.difference.Goals as goal

pub returns : goal.returns
returns c = record { meaning = c.remainder.ensures.meaning ∙ of_left c.args.self (8191 - c.args.other % 8191); below = c.remainder.ensures.below }
