use Rattle.std.proofs.Common.{ap, ◌∙◌}
use Rattle.arithmetic.specs.Residues.{residue}
use Rattle.arithmetic.proofs.residues.U16Arithmetic.whole.Goals as goal

pub returns : goal.returns
returns c = record { meaning = c.remainder.ensures.meaning ∙ ap residue c.min.ensures; below = c.remainder.ensures.below }
