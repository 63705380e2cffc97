use Rattle.std.proofs.Common.{◌≡◌, ◌^◌, ◌<◌, None, Option, sym, ◌∙◌, arith, rules}
use Rattle.sheet.specs.declared.refusal.Shown.{Shown}
use Rattle.topology.proofs.ByCuts.{cut_by_place}
use Rattle.topology.proofs.Meaning.{cut_at_hand}
use Rattle.topology.specs.Trees.{cut_of}
use Rattle.topology.proofs.rows.TreeRows.cut_in.Goals as goal

pub returns-then-has : goal.returns-then-has
returns-then-has c =
    let rows = c.args.self.now in
    let fits : rows.tree < 2 ^ 32 = omega arith in
    let row = cut_by_place rows.plan.now rows.tree rows.cuts rows.are fits c.args.number c.cut.result (sym c.has.ensures ∙ c.if-has.true) c.cut.ensures in
    record { answer = row; meaning = cut_at_hand _ _ _ _ row }

pub returns-else-has-clause-meaning : goal.returns-else-has-clause-meaning
returns-else-has-clause-meaning c =
    let none : ◌≡◌ {A = Option Shown} None (cut_of c.args.self.now.plan.now c.args.self.now.tree c.args.number) = search rules in
    cut_at_hand _ _ _ _ none
