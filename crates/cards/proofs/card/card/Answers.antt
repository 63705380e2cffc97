use Rattle.std.proofs.Common.{◌∙◌}
use Rattle.std.proofs.lemmas.Result.{err_from_is_err_and}
use Rattle.cards.specs.Fields.{seen, seen_cut}
use Rattle.cards.proofs.Chains.{barred_stops, to_over}
use Rattle.cards.proofs.card.card.Goals as goal

pub returns-in_err-none_over : goal.returns-in_err-none_over
returns-in_err-none_over g c =
    let p = err_from_is_err_and c.from_residual-in_err-none_over.result c.from_residual-in_err-none_over.ensures.1 in
    rw (p.1, p.2)
    (barred_stops 24 _ _ (tt {0}) _ _ _ c.in_err-none_over.ensures
    ∙ to_over g.N.Arithmetic.ops c.args.kind (seen_cut c.args.fields) (seen c.args.number) _ _ _ _ _
    c.in_ok-number.ensures c.in_ok-tail.ensures c.in_ok-head.ensures c.in_ok-value.ensures c.in_ok-start.ensures)
