use Rattle.std.proofs.Common.{ap}
use Rattle.std.proofs.lemmas.Result.{err_from_is_err_and}
use Rattle.printed_key.proofs.Stepping.{read_from_blank}
use Rattle.printed_key.proofs.card_sheet.read_sheet.Goals as goal

pub returns-in_err-read_cards-clause-fault : goal.returns-in_err-read_cards-clause-fault
returns-in_err-read_cards-clause-fault g c =
    let q = err_from_is_err_and c.from_residual.result c.from_residual.ensures.1 in
    rw (q.1, q.2)
    (ap (λ st. st.fault) (read_from_blank g.N.Arithmetic.ops c.args.input.now _ _ _ c.in_err-read_cards.ensures.reads c.empty-plan.ensures c.fresh_rows-rows.ensures.meant))
