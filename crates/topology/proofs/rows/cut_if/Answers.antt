use Rattle.std.proofs.Common.{sym, ◌∙◌}
use Rattle.std.proofs.lemmas.Bool.{cond-true, cond-false}
use Rattle.graphs.specs.Cuts.{cut_row}
use Rattle.networks.specs.Networks.{graph_of}
use Rattle.topology.specs.Rows.{nothing, shown, cut_from}
use Rattle.networks.specs.Words.{bits}
use Rattle.topology.proofs.Gathering.{cut-from-side}
use Rattle.topology.proofs.rows.cut_if.Goals as goal

pub returns-then-has : goal.returns-then-has
returns-then-has c = λ stars.
    let g = graph_of c.args.plan.now in
    let w = bits c.args.word in
    let t = c.args.t in
    c.cut_at.ensures stars
    ∙ (λ i. cut_from g (c.remove.ensures i) (c.tail.ensures i))
    ∙ cut-from-side g w t
    ∙ sym (cond-true (w t) (shown (cut_row g w 32 t)) nothing (sym c.has.ensures ∙ c.if-has.true))

pub returns-else-has : goal.returns-else-has
returns-else-has c = λ stars.
    let w = bits c.args.word in
    let t = c.args.t in
    (λ i. record { members = c.default.ensures.0 i; against = c.default.ensures.1 i }) ∙ sym (cond-false (w t) (shown (cut_row (graph_of c.args.plan.now) w 32 t)) nothing (sym c.has.ensures ∙ c.if-has.false))
