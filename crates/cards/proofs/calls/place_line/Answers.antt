use Rattle.std.proofs.Common.{sym, ap, ◌∙◌, rules}
use Rattle.cards.specs.Cards.{right, checked_by, meant_card}
use Rattle.cards.specs.declared.fault.Fault.{Fault}
use Rattle.cards.proofs.Chains.{was_ok}
use Rattle.cards.proofs.Placing.{answered_line}
use Rattle.cards.proofs.calls.place_line.Goals as goal

pub returns : goal.returns
returns g c =
    let mean = g.N.Arithmetic.mean in
    let card = ap (checked_by (meant_card mean)) (sym (was_ok Fault c.read_line.result c.in_ok-card.card c.in_ok-card.ensures.cases)) in
    answered_line g.N.Arithmetic.ops _ _ c.args.line.number _ c.args.line.text.now
    (ap (λ x. right (meant_card mean x)) (sym c.in-Some.is) ∙ card ∙ c.read_line.ensures) _ c.place.result c.map_err-2.result c.map_err-2.ensures.cases
    (λ e f k. search rules) c.place.ensures.story
