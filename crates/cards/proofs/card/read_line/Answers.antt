use Rattle.std.proofs.Common.{◌≡◌, ◌+◌, ◌-◌, ◌<◌, length, get_or, take, drop, Some, sym, ap, ◌∙◌, rules}
use Rattle.std.proofs.lemmas.Result.{err_from_is_err_and}
use Rattle.sheet.specs.declared.refusal.Refusal.TheVariants.{NoSuchLetter}
use Rattle.cards.specs.declared.fault.Wrong.{Wrong}
use Rattle.cards.specs.Cards.{right, then, card_of, opened, line_of}
use Rattle.cards.specs.Fields.{seen_cut}
use Rattle.cards.proofs.Chains.{card_line, was_ok, was_some}
use Rattle.cards.proofs.card.read_line.Given as given
use Rattle.cards.proofs.card.read_line.Goals as goal
use Rattle.cards.proofs.card.read_line.Goals.{After-card}

-- the line is the card that its fields make
found : (g : given.Over) (c : After-card g)
    → then (card_of g.N.Arithmetic.ops c.in_ok-kind-in-len1-up.kind
    (record { place = c.first_field-first.result.place + 1; text = take (length c.first_field-first.result.text.now - 1) (drop 1 c.first_field-first.result.text.now) })
    (seen_cut c.cut_after.result)) (λ p. right (Some p)) ≡ line_of g.N.Arithmetic.ops c.args.line.now
found g c =
    let text = c.first_field-first.result.text.now in
    let same = c.first_field-first.ensures.is ∙ sym (ap (λ x. x.first) c.cut_after.ensures) in
    let some : 0 < length text = search rules in
    let star : get_or text 0 0 ≡ 42 → ⊥ = search rules in
    let was = was_ok Wrong c.try_from.result c.in_ok-kind-in-len1-up.kind c.in_ok-kind-in-len1-up.ensures.cases in
    let letter = was_some _ NoSuchLetter c.in_ok-kind-in-len1-up.kind (sym c.try_from.ensures ∙ was) in
    card_line g.N.Arithmetic.ops c.in_ok-kind-in-len1-up.kind (seen_cut c.cut_after.result) text _ some star letter (ap (λ w. w.place + 1) same)
    ∙ (λ i. opened g.N.Arithmetic.ops (c.first_field-first.ensures.is i).text (c.cut_after.ensures i))

pub returns-in_err-card-in-len1-up : goal.returns-in_err-card-in-len1-up
returns-in_err-card-in-len1-up g c =
    let p = err_from_is_err_and c.from_residual-in_err-card-in-len1-up.result c.from_residual-in_err-card-in-len1-up.ensures.1 in
    rw (p.1, p.2) (ap (λ x. then x (λ p. right (Some p))) c.in_err-card-in-len1-up.ensures ∙ found g (goal.at.returns-in_err-card-in-len1-up g c).After-card)

pub returns-in_ok-card-in-len1-up : goal.returns-in_ok-card-in-len1-up
returns-in_ok-card-in-len1-up g c =
    ap (λ x. then x (λ p. right (Some p))) c.in_ok-card-in-len1-up.ensures ∙ found g (goal.at.returns-in_ok-card-in-len1-up g c).After-card
