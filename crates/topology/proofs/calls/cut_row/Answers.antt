use Rattle.std.proofs.Common.{ap, ◌∙◌}
use Rattle.std.proofs.lemmas.Result.{err_from_is_err_and}
use Rattle.sheet.specs.Refusals.{granted, after}
use Rattle.topology.proofs.Answering.{with_meaning}
use Rattle.topology.specs.Meanings.{CutAnswer}
use Rattle.topology.specs.Trees.{cut_of, cut_row_of}
use Rattle.topology.proofs.Meaning.{cut-answer}
use Rattle.topology.proofs.calls.cut_row.Goals as goal

pub returns-in_err-tree-clause-answer : goal.returns-in_err-tree-clause-answer
unfolding cut_row_of
returns-in_err-tree-clause-answer c =
    let p = err_from_is_err_and c.from_residual.result c.from_residual.ensures.1 in
    rw (p.1, p.2) (ap (λ a. after a (λ tree. granted (cut_of c.args.plan.now tree c.args.number))) c.in_err-tree.ensures.answer)

pub returns : goal.returns
unfolding cut_row_of
returns c =
    with_meaning (CutAnswer c.args.plan.now c.args.number) (cut-answer c.args.plan.now c.args.number)
    (ap granted c.cut_of.ensures ∙ ap (λ a. after a (λ tree. granted (cut_of c.args.plan.now tree c.args.number))) c.in_ok-tree.ensures.answer)
