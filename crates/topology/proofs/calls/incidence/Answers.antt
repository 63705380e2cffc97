use Rattle.std.proofs.Common.{eqb, ◌∙◌}
use Rattle.graphs.specs.Cuts.{diff}
use Rattle.topology.specs.Meanings.{IncidenceAnswer}
use Rattle.topology.proofs.Answering.{with_meaning}
use Rattle.topology.proofs.Meaning.{incidence-answer}
use Rattle.topology.proofs.calls.incidence.Goals as goal

pub returns : goal.returns
returns c =
    let p = c.args.plan.now in
    let x = c.args.node in
    let k = c.args.branch in
    with_meaning (IncidenceAnswer p x k) (incidence-answer p x k)
    (c.difference.ensures ∙ (λ i. diff (eqb x (c.tail-tail.ensures i)) (eqb x (c.head-head.ensures i))))
