use Rattle.std.proofs.Common.{min, max, eqb, sym, ◌∙◌}
use Rattle.std.proofs.lemmas.Bool.{eq-eqb, ne_eqb, cond-true, cond-false}
use Rattle.graphs.specs.Labels.{merge}
use Rattle.networks.proofs.labels.merged.Goals as goal

pub returns-then-label-max : goal.returns-then-label-max
unfolding merge
returns-then-label-max c =
    c.min.ensures
    ∙ sym (cond-true (eqb c.args.label (max c.args.p c.args.q)) (min c.args.p c.args.q) c.args.label (eq-eqb _ _ (c.if-label-max.true ∙ c.max.ensures)))

pub returns-else-label-max : goal.returns-else-label-max
unfolding merge
returns-else-label-max c =
    sym (cond-false (eqb c.args.label (max c.args.p c.args.q)) (min c.args.p c.args.q) c.args.label (ne_eqb _ _ (λ e. c.if-label-max.false (e ∙ sym c.max.ensures))))
