use Rattle.std.proofs.Common.{◌≡◌, map, sym, ap, ◌∙◌, subst, rules}
use Rattle.networks.specs.Networks.{placed}
use Rattle.networks.specs.Words.{bits}
use Rattle.stepping.specs.Steps.{unsound_at}
use Rattle.stepping.proofs.Asking.{Asked, asked_start, asked_yes, asked_no, asked_none, placed_asked}
use Rattle.stepping.proofs.figures.Figures.are_unsound.Goals as goal

pub loop-k-init : goal.loop-k-init
loop-k-init g c =
    let m = g.N.Arithmetic.mean in
    let p = c.args.framed.now.plan.now in
    let U = unsound_at g.N.Arithmetic.ops p (map m c.args.self.now.currents.now) (map m c.args.self.now.voltages.now) in
    let start : c.into_iter-k-iterator.result.left ≡ c.placed.result = search rules in
    subst (Asked U (placed p)) (sym (ap bits start ∙ c.placed.ensures)) (asked_start U (placed p))

pub loop-k-preserved : goal.loop-k-preserved
loop-k-preserved g c =
    let took = c.in-Some.ensures.steps in
    asked_no _ _ _ _ c.in-Some.k c.loop-k.invariant took.0 took.1 (sym c.is_unsound.ensures ∙ c.if-is_unsound.false)

pub returns-then-is_unsound : goal.returns-then-is_unsound
returns-then-is_unsound g c =
    let m = g.N.Arithmetic.mean in
    sym (sym (placed_asked g.N.Arithmetic.ops c.args.framed.now.plan.now (map m c.args.self.now.currents.now) (map m c.args.self.now.voltages.now))
    ∙ asked_yes _ _ _ c.in-Some.k c.loop-k.invariant c.in-Some.ensures.steps.0 (sym c.is_unsound.ensures ∙ c.if-is_unsound.true))

pub returns : goal.returns
returns g c =
    let m = g.N.Arithmetic.mean in
    sym (sym (placed_asked g.N.Arithmetic.ops c.args.framed.now.plan.now (map m c.args.self.now.currents.now) (map m c.args.self.now.voltages.now))
    ∙ asked_none _ _ _ c.loop-k.invariant c.in-None.ensures.steps.0)
