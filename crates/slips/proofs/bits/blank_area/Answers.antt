use Rattle.std.proofs.Common.{◌≡◌, ℕ, ◌++◌, List, drop, replicate, sym, ap, ◌∙◌, arith, rules}
use Rattle.std.proofs.lemmas.List.{length-take-le}
use Rattle.slips.specs.Writing.{blanked}
use Rattle.slips.proofs.Ending.{blanked_short, blanked_wide, blanked_past}
use Rattle.slips.proofs.Putting.{zeroed_is}
use Rattle.slips.proofs.bits.blank_area.Goals as goal

pub returns-then-area-ge280 : goal.returns-then-area-ge280
returns-then-area-ge280 c =
    let area = c.args.area.now in
    let n = length-take-le 280 area c.if-area-ge280.true in
    let is : c.fill.new.self ++ drop 280 area ≡ blanked area =
    ap (λ (xs : List ℕ). xs ++ drop 280 area) (c.fill.ensures.after (search rules) ∙ ap (λ (k : ℕ). replicate k 0) n)
    ∙ zeroed_is 280 area (omega arith)
    ∙ sym (blanked_wide area c.if-area-ge280.true)
    in
    record { area = is; past = blanked_past area is }

pub returns-else-area-ge280-clause-area : goal.returns-else-area-ge280-clause-area
returns-else-area-ge280-clause-area c = sym (blanked_short c.args.area.now c.if-area-ge280.false)
