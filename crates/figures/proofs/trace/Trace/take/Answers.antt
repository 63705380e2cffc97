use Rattle.std.proofs.Common.{sym, subst, rules}
use Rattle.sheet.specs.Refusals.{pass}
use Rattle.figures.specs.Traces.{Took, taken, more_granted, Sums}
use Rattle.figures.proofs.Summing.{sums_step}
use Rattle.figures.proofs.trace.Trace.take.Goals as goal

pub returns : goal.returns
returns c =
    let t = c.args.self.now in
    let v = c.args.voltage in
    let d : Took t v pass c.with_taking.result = search rules in
    record { does = d; sums = λ g s. subst (Sums (more_granted (taken t v) g v)) (sym d.traces) (sums_step g t v s) }
