use Rattle.std.proofs.Common.{ap, ◌∙◌}
use Rattle.std.proofs.lemmas.Result.{err_from_is_err_and}
use Rattle.sheet.specs.Refusals.{granted, after}
use Rattle.topology.proofs.Answering.{with_meaning}
use Rattle.topology.specs.Meanings.{LoopAnswer}
use Rattle.topology.specs.Trees.{loop_of, loop_row_of}
use Rattle.topology.proofs.Meaning.{loop_answer}
use Rattle.topology.proofs.calls.loop_row.Goals as goal

pub returns-in_err-tree-clause-answer : goal.returns-in_err-tree-clause-answer
unfolding loop_row_of
returns-in_err-tree-clause-answer c =
    let p = err_from_is_err_and c.from_residual.result c.from_residual.ensures.1 in
    rw (p.1, p.2) (ap (λ a. after a (λ tree. granted (loop_of c.args.plan.now tree c.args.number))) c.in_err-tree.ensures.answer)

pub returns : goal.returns
unfolding loop_row_of
returns c =
    with_meaning (LoopAnswer c.args.plan.now c.args.number) (loop_answer c.args.plan.now c.args.number)
    (ap granted c.loop_of.ensures ∙ ap (λ a. after a (λ tree. granted (loop_of c.args.plan.now tree c.args.number))) c.in_ok-tree.ensures.answer)
