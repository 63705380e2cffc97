use Rattle.std.proofs.Common.{eqb, length, ap, ◌∙◌, rules, tests}
use Rattle.std.proofs.lemmas.Iterator.{YieldsList-from_slice}
use Rattle.std.proofs.lemmas.Iterator.Search.{position_from_yields_List}
use Rattle.std.specs.Option.{unwrap_or}
use Rattle.cards.proofs.Pieces.{reach_found}
use Rattle.cards.proofs.scan.until.Goals as goal

pub returns-clause-reach : goal.returns-clause-reach
returns-clause-reach c =
    let bytes = c.args.bytes.now in
    let spot = position_from_yields_List (λ b. eqb b c.args.stop) _ _ c.position.result c.position.ensures.ran (YieldsList-from_slice bytes c.iter.ensures.rest) (λ x b q k. search (rules, tests)) in
    c.unwrap_or.ensures ∙ ap (λ o. unwrap_or o (length bytes)) spot ∙ reach_found c.args.stop bytes
