use Rattle.std.proofs.Common.{is_some, sym, ap, ◌∙◌}
use Rattle.stepping.proofs.Working.{blank_is, worked}
use Rattle.stepping.proofs.calls.solve_system.Goals as goal

pub returns : goal.returns
returns g c =
    let o = g.N.Arithmetic.ops in
    let m = g.N.Arithmetic.mean in
    let n = c.args.framed.now in
    worked o m n.plan.now c.args.rows.now c.type_inv.rows n.frame.tree n.tree (m c.args.h) n.frame n.is _ _ _ _ _ _
    (blank_is o m g.N.Arithmetic.nil _ g.met.N.Arithmetic.nought c.clear.ensures)
    c.store_companions.ensures c.assemble-unknowns.ensures.system c.assemble-unknowns.ensures.unknowns c.solve.ensures.answer c.solve.ensures.left
    _ (sym (ap is_some c.in_ok-ok.was) ∙ c.ok.ensures.variant) (λ k e. cc)

pub returns-in_err-ok : goal.returns-in_err-ok
returns-in_err-ok g c =
    let o = g.N.Arithmetic.ops in
    let m = g.N.Arithmetic.mean in
    let n = c.args.framed.now in
    worked o m n.plan.now c.args.rows.now c.type_inv.rows n.frame.tree n.tree (m c.args.h) n.frame n.is _ _ _ _ _ _
    (blank_is o m g.N.Arithmetic.nil _ g.met.N.Arithmetic.nought c.clear.ensures)
    c.store_companions.ensures c.assemble-unknowns.ensures.system c.assemble-unknowns.ensures.unknowns c.solve.ensures.answer c.solve.ensures.left
    _ (ap is_some c.from_residual.ensures ∙ sym (ap is_some c.in_err-ok.was) ∙ c.ok.ensures.variant) (λ k e. let none = c.from_residual.ensures in cc)
