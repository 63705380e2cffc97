use Rattle.std.proofs.Common.{refl, arith}
use Rattle.arithmetic.specs.ResidueLaws.{of_remainder}
use Rattle.arithmetic.proofs.residues.remainder.Goals as goal

pub returns : goal.returns
returns c = record { meaning = of_remainder c.args.n; below = omega arith; value = refl }
