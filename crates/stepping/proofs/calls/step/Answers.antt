use Rattle.std.proofs.Common.{sym, ap, ◌∙◌, subst}
use Rattle.std.proofs.lemmas.Result.{err_from_is_err_and}
use Rattle.sheet.specs.Refusals.{means, verdict, fail}
use Rattle.stepping.specs.Calls.{StepDoes}
use Rattle.stepping.proofs.Stepping.{may, may_not, no_tree, promise}
use Rattle.stepping.proofs.calls.step.Goals as goal

pub returns-in_err-may_step : goal.returns-in_err-may_step
returns-in_err-may_step g c =
    let q = err_from_is_err_and c.from_residual.result c.from_residual.ensures.1 in
    let o = g.N.Arithmetic.ops in
    let m = g.N.Arithmetic.mean in
    let told = ap verdict q.1 ∙ ap (λ x. fail (means x)) q.2 in
    promise o m g.N.Arithmetic.nil c.args.plan.now c.args.rows.now c.args.h c.args.work.now _ _ _
    (subst (λ v. StepDoes o m g.N.Arithmetic.nil c.args.plan.now c.args.rows.now c.args.h c.args.work.now v c.args.rows.now c.args.work.now) (sym told)
    (may_not _ _ _ _ _ _ _ _ c.in_err-may_step.ensures))
    g.N.Arithmetic.EXACT g.met.N.Arithmetic.lawful

pub returns-in_err-tree : goal.returns-in_err-tree
returns-in_err-tree g c =
    let q = err_from_is_err_and c.from_residual-in_err-tree.result c.from_residual-in_err-tree.ensures.1 in
    let o = g.N.Arithmetic.ops in
    let m = g.N.Arithmetic.mean in
    let told = ap verdict q.1 ∙ ap (λ x. fail (means x)) q.2 in
    let asked = may o m g.N.Arithmetic.nil c.args.plan.now c.args.rows.now c.args.h c.args.work.now c.in_ok-may_step.ensures in
    promise o m g.N.Arithmetic.nil c.args.plan.now c.args.rows.now c.args.h c.args.work.now _ _ _
    (subst (λ v. StepDoes o m g.N.Arithmetic.nil c.args.plan.now c.args.rows.now c.args.h c.args.work.now v c.args.rows.now c.args.work.now) (sym told)
    (no_tree _ _ _ _ _ _ _ asked.0 asked.1 _ c.in_err-tree.ensures.answer))
    g.N.Arithmetic.EXACT g.met.N.Arithmetic.lawful

pub returns : goal.returns
returns g c = c.step.ensures
