use Rattle.std.proofs.Common.{◌≡◌, length, Err, sym, refl, ap, ◌∙◌, arith}
use Rattle.std.proofs.lemmas.Result.{err_from_is_err_and}
use Rattle.arithmetic.specs.Residues.{residue_ops}
use Rattle.cards.specs.Following.{blank_sheet}
use Rattle.cards.specs.Reading.{cards_read}
use Rattle.printed_key.specs.Blocks.{remainder_lines, or_refused, or_fault, or_fault_by, residue_step_lines, residue_lines, residue_lines_read}
use Rattle.printed_key.proofs.Stepping.{step-passed, step-failed}
use Rattle.printed_key.proofs.residues.stepped_residues.Goals as goal

pub returns-in_err-sheet : goal.returns-in_err-sheet
unfolding residue_lines
returns-in_err-sheet c =
    let q = err_from_is_err_and c.from_residual.result c.from_residual.ensures.1 in
    let left = cards_read residue_ops c.args.input.now (blank_sheet residue_ops) in
    sym (ap (λ o. or_fault_by residue_step_lines o left.sheet) c.in_err-sheet.ensures.fault)
    ∙ sym (ap residue_lines_read (q.1 ∙ ap Err q.2))

pub returns-in_err-step : goal.returns-in_err-step
unfolding residue_lines
returns-in_err-step c =
    let q = err_from_is_err_and c.from_residual-in_err-step.result c.from_residual-in_err-step.ensures.1 in
    let n : length c.in_ok-sheet.sheet.rows ≡ 32 = omega arith in
    sym (ap (or_fault residue_step_lines) c.in_ok-sheet.ensures.sheet)
    ∙ sym (ap (or_refused remainder_lines) (step-failed _ _ _ _ _ _ _ _ _ _ n refl c.one.ensures.meaning c.in_err-step.ensures.does))
    ∙ sym (ap residue_lines_read (q.1 ∙ ap Err q.2))

pub returns : goal.returns
unfolding residue_lines
returns c =
    let n : length c.in_ok-sheet.sheet.rows ≡ 32 = omega arith in
    sym (ap (or_fault residue_step_lines) c.in_ok-sheet.ensures.sheet)
    ∙ sym (ap (or_refused remainder_lines) (step-passed _ _ _ _ _ _ _ _ _ n refl c.one.ensures.meaning c.in_ok-step.ensures.does))
