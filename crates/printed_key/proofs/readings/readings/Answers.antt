use Rattle.std.proofs.Common.{◌<◌, [], length, sym, refl, ap, ◌∙◌, arith, length-set}
use Rattle.std.proofs.lemmas.Result.{err_from_is_err_and}
use Rattle.sheet.specs.Refusals.{told, refused, means}
use Rattle.printed_key.proofs.Taking.{none-taken, one-taken, one-refused}
use Rattle.printed_key.proofs.readings.readings.Goals as goal

pub loop-k-init : goal.loop-k-init
loop-k-init c = (none-taken _ _ [], refl)

pub loop-k-preserved : goal.loop-k-preserved
loop-k-preserved c =
    let h : c.loop-k.k < length c.loop-k.reading-items = omega arith in
    (one-taken _ _ _ _ _ h c.loop-k.invariant.0 c.in_ok-reading.ensures, length-set c.loop-k.reading-items _ _ ∙ c.loop-k.invariant.1)

pub returns-in_err-reading : goal.returns-in_err-reading
returns-in_err-reading c =
    let q = err_from_is_err_and c.from_residual.result c.from_residual.ensures.1 in
    let h : c.loop-k.k < 32 = omega arith in
    ap told q.1 ∙ ap (λ e. refused (means e)) q.2
    ∙ sym (one-refused _ _ _ _ _ h c.loop-k.invariant.0 c.in_err-reading.ensures)
