use Rattle.std.proofs.Common.{◌*◌, ◌%◌, ap, ◌∙◌}
use Rattle.arithmetic.specs.Residues.{residue}
use Rattle.arithmetic.specs.ResidueLaws.{of_factor}
use Rattle.arithmetic.proofs.residues.U16Arithmetic.quotient.Goals as goal

pub returns : goal.returns
returns c = record {
  meaning =
      c.remainder.ensures.meaning
      ∙ of_factor c.args.self c.inverse.result
      ∙ ap (λ x. residue (c.args.self % 8191 * x)) c.inverse.ensures.value;
  below = c.remainder.ensures.below;
}
