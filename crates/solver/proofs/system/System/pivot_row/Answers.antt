use Rattle.std.proofs.Common.{◌≡◌, rules, true, false, map}
use Rattle.std.proofs.lemmas.Iterator.{first_from_Range}
use Rattle.arithmetic.specs.Ops.{may_divide}
use Rattle.linear.specs.Elimination.{entry}
use Rattle.solver.proofs.Law.{find_first}
use Rattle.solver.proofs.system.System.pivot_row.Goals as goal

pub returns : goal.returns
returns g c =
    let o = g.N.Arithmetic.ops in
    let p = λ (r : _). may_divide o (entry o (map g.N.Arithmetic.mean c.args.self.now.work.now) r c.args.column) in
    find_first p _ _ _
    (first_from_Range _ _ _ _ (λ r. p r ≡ true) (λ r. p r ≡ false) c.find.ensures.ran (λ x q k. search rules) (λ x q k. search rules))
