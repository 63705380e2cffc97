use Rattle.std.proofs.Common.{sym, ◌∙◌, arith}
use Rattle.stepping.proofs.Working.{figured, ok_some}
use Rattle.stepping.proofs.Settling.{unsound_is, rows_are, is_unsound, settles_refused, settles-granted}
use Rattle.stepping.proofs.calls.advance.Goals as goal

pub returns-then-are_unsound : goal.returns-then-are_unsound
returns-then-are_unsound g c =
    let o = g.N.Arithmetic.ops in
    let m = g.N.Arithmetic.mean in
    let n = c.args.framed.now in
    let p = n.plan.now in
    let rows = c.args.rows.now in
    let h = m c.args.h in
    let some = ok_some _ _ _ (sym c.ok_or.ensures.value ∙ c.in_ok-unknowns.was) in
    let q = figured o m p rows (omega arith) n.frame.tree n.tree h n.frame n.is _ _ _ _ _ c.solve_system.ensures some c.branch_voltages-voltages.ensures c.branch_currents-currents.ensures in
    settles_refused o m h p rows _ (is_unsound o m h p rows q.ok (sym (unsound_is o h _ _ _ q.is q.us) ∙ sym c.are_unsound.ensures ∙ c.if-are_unsound.true))

pub returns : goal.returns
returns g c =
    let o = g.N.Arithmetic.ops in
    let m = g.N.Arithmetic.mean in
    let n = c.args.framed.now in
    let p = n.plan.now in
    let rows = c.args.rows.now in
    let h = m c.args.h in
    let some = ok_some _ _ _ (sym c.ok_or.ensures.value ∙ c.in_ok-unknowns.was) in
    let q = figured o m p rows (omega arith) n.frame.tree n.tree h n.frame n.is _ _ _ _ _ c.solve_system.ensures some c.branch_voltages-voltages.ensures c.branch_currents-currents.ensures in
    settles-granted o m h p rows _ q.ok (sym (unsound_is o h _ _ _ q.is q.us) ∙ sym c.are_unsound.ensures ∙ c.if-are_unsound.false) (c.renew_rows.ensures.rows ∙ rows_are o h _ _ _ q.is q.us) c.renew_rows.ensures.gives c.renew_rows.ensures.others
