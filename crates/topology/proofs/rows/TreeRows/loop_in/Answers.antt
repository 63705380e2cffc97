use Rattle.std.proofs.Common.{◌≡◌, Some, None, Option, sym, ◌∙◌, rules}
use Rattle.sheet.specs.declared.refusal.Shown.{Shown}
use Rattle.networks.proofs.Networks.{placed_below}
use Rattle.topology.proofs.Meaning.{loop_at_hand}
use Rattle.topology.specs.Trees.{loop_of}
use Rattle.topology.proofs.rows.TreeRows.loop_in.Goals as goal

pub loop_along-requires : goal.loop_along-requires
loop_along-requires c = placed_below c.args.self.now.plan.now c.args.number (sym c.is_placed.ensures ∙ c.if-is_placed.true)

pub returns-then-not-has-clause-meaning : goal.returns-then-not-has-clause-meaning
returns-then-not-has-clause-meaning c =
    let row : Some c.loop_along.result ≡ loop_of c.args.self.now.plan.now c.args.self.now.tree c.args.number = search rules in
    loop_at_hand _ _ _ _ row

pub returns-else-is_placed-clause-meaning : goal.returns-else-is_placed-clause-meaning
returns-else-is_placed-clause-meaning c =
    let none : ◌≡◌ {A = Option Shown} None (loop_of c.args.self.now.plan.now c.args.self.now.tree c.args.number) = search rules in
    loop_at_hand _ _ _ _ none
