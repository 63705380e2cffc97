use Rattle.std.proofs.Common.{◌≡◌, length, refl, ap, ◌∙◌, arith}
use Rattle.std.proofs.lemmas.Result.{err_from_is_err_and}
use Rattle.sheet.specs.Refusals.{told, refused, after, means}
use Rattle.printed_key.specs.Blocks.{readings_below}
use Rattle.printed_key.proofs.Stepping.{float-passed, float-failed}
use Rattle.printed_key.proofs.readings.stepped_readings.Goals as goal

pub returns-in_err-step : goal.returns-in_err-step
returns-in_err-step c =
    let n : length c.args.rows.now ≡ 32 = omega arith in
    let q = err_from_is_err_and c.from_residual.result c.from_residual.ensures.1 in
    ap told q.1 ∙ ap (λ e. refused (means e)) q.2
    ∙ ap (λ a. after a (λ t. readings_below t.plan t.rows 32)) (float-failed _ _ _ _ _ _ _ _ n refl c.one.ensures.meaning c.in_err-step.ensures.does)

pub returns : goal.returns
returns c =
    let n : length c.args.rows.now ≡ 32 = omega arith in
    c.readings.ensures
    ∙ ap (λ a. after a (λ t. readings_below t.plan t.rows 32)) (float-passed _ _ _ _ _ _ _ n refl c.one.ensures.meaning c.in_ok-step.ensures.does)
