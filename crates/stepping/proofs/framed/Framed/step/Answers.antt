use Rattle.std.proofs.Common.{◌++◌, drop, sym, ap, ◌∙◌, subst, rules}
use Rattle.std.proofs.lemmas.Result.{err_from_is_err_and}
use Rattle.sheet.specs.Refusals.{means, verdict, fail}
use Rattle.stepping.specs.Calls.{cleared, StepDoes}
use Rattle.stepping.specs.Steps.{Settles}
use Rattle.stepping.proofs.Areas.{fewer}
use Rattle.stepping.proofs.Stepping.{may, may_not, with-tree, promise}
use Rattle.stepping.proofs.framed.Framed.step.Goals as goal

pub returns-in_err-may_step : goal.returns-in_err-may_step
returns-in_err-may_step g c =
    let q = err_from_is_err_and c.from_residual.result c.from_residual.ensures.1 in
    let o = g.N.Arithmetic.ops in
    let m = g.N.Arithmetic.mean in
    promise o m g.N.Arithmetic.nil c.args.self.now.plan.now c.args.rows.now c.args.h c.args.work.now _ _ _
    (subst (λ v. StepDoes o m g.N.Arithmetic.nil c.args.self.now.plan.now c.args.rows.now c.args.h c.args.work.now v c.args.rows.now c.args.work.now) (sym (ap verdict q.1 ∙ ap (λ x. fail (means x)) q.2))
    (may_not _ _ _ _ _ _ _ _ c.in_err-may_step.ensures))
    g.N.Arithmetic.EXACT g.met.N.Arithmetic.lawful

pub as_mut_array-requires : goal.as_mut_array-requires
as_mut_array-requires g c = fewer 32 _ _ (search rules) c.well_formed.1.0.1

pub first_chunk_mut-requires : goal.first_chunk_mut-requires
first_chunk_mut-requires g c = fewer 304 _ _ (search rules) c.well_formed.1.1.1.0.1

pub settle-requires : goal.settle-requires
settle-requires g c = (fewer 32 _ _ (search rules) c.well_formed.1.0.1, fewer 304 _ _ (search rules) c.well_formed.1.1.1.0.1)

pub returns : goal.returns
unfolding cleared
returns g c =
    let o = g.N.Arithmetic.ops in
    let m = g.N.Arithmetic.mean in
    let self = c.args.self.now in
    let p = self.plan.now in
    let asked = may o m g.N.Arithmetic.nil p c.args.rows.now c.args.h c.args.work.now c.in_ok-may_step.ensures in
    promise o m g.N.Arithmetic.nil p c.args.rows.now c.args.h c.args.work.now _ _ _
    (with-tree _ _ _ _ _ _ _ asked.0 asked.1 _ _ _ _ (sym self.tree)
    (subst (λ rows. Settles o m (m c.args.h) p rows (verdict c.settle.result) c.settle.new.rows) c.in-Some-Some.ensures.cases.same c.settle.ensures.does) (ap (λ a. a ++ drop 304 c.args.work.now) c.settle.ensures.area))
    g.N.Arithmetic.EXACT g.met.N.Arithmetic.lawful
