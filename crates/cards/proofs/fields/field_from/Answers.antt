use Rattle.std.proofs.Common.{◌≡◌, take, drop, sym, ap, ◌∙◌, subst}
use Rattle.std.proofs.lemmas.List.{take_rest}
use Rattle.cards.specs.Fields.{First}
use Rattle.cards.specs.Parts.{reach}
use Rattle.cards.proofs.Pieces.{first_field}
use Rattle.cards.proofs.fields.field_from.Goals as goal

pub returns : goal.returns
returns c =
    let line = c.args.line.now in
    let place = c.past_spaces-place.result in
    let found = c.past_spaces-place.ensures in
    let rest = take_rest line place in
    let size : c.until.result ≡ reach 32 (drop place line) = c.until.ensures.reach ∙ ap (reach 32) rest in
    subst (λ t. First line c.args.from (record { place = place; text = t })) (sym (λ i. take (size i) (rest i)))
    (first_field line c.args.from place found.within found.same found.stops)
