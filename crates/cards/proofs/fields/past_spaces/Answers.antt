use Rattle.std.proofs.Common.{◌-◌, not, eqb, length, take, drop, ap, ◌∙◌, rules, tests}
use Rattle.std.proofs.lemmas.Iterator.{YieldsList-from_slice}
use Rattle.std.proofs.lemmas.Iterator.Search.{position_from_yields_List}
use Rattle.std.proofs.lemmas.List.{take_rest}
use Rattle.std.specs.List.{position}
use Rattle.std.specs.Option.{unwrap_or}
use Rattle.cards.proofs.Pieces.{gap_past}
use Rattle.cards.proofs.fields.past_spaces.Goals as goal

pub returns-clause-same : goal.returns-clause-same
returns-clause-same c =
    let line = c.args.line.now in
    let rest = take (length line - c.args.from) (drop c.args.from line) in
    let found = position_from_yields_List (λ b. not (eqb b 32)) _ _ c.position.result c.position.ensures.ran (YieldsList-from_slice rest c.iter.ensures.rest) (λ x b q k. search (rules, tests)) in
    gap_past line c.args.from c.unwrap_or.result
    (c.unwrap_or.ensures ∙ ap (λ o. unwrap_or o (length rest)) found ∙ ap (λ bs. unwrap_or (position (λ b. not (eqb b 32)) bs) (length bs)) (take_rest line c.args.from))
