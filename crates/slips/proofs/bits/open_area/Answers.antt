use Rattle.std.proofs.Common.{◌≡◌, ℕ, ◌≤◌, ◌++◌, List, length, drop, sym, ap, ◌∙◌, arith, rules}
use Rattle.slips.specs.Bits.{put_bits, high, low}
use Rattle.slips.specs.Writing.{opened}
use Rattle.slips.proofs.Ending.{blanked_short, blanked_wide, opened_short, opened_wide, opened_past}
use Rattle.slips.proofs.Putting.{high_reversed, length-low, put_bits_first}
use Rattle.slips.proofs.bits.open_area.Goals as goal

pub returns-in-Some : goal.returns-in-Some
returns-in-Some c =
    let area = c.args.area.now in
    let blank = c.blank_area.new.area in
    let wide : 280 ≤ length blank = c.in-Some.ensures.cases.enough in
    let turned : high 32 c.reverse_bits.result ≡ low 32 c.args.tree = ap (high 32) c.reverse_bits.ensures ∙ high_reversed c.args.tree in
    let is : c.put_word.new.area ++ drop 280 blank ≡ opened c.args.tree area =
    ap (λ (xs : List ℕ). xs ++ drop 280 blank) (c.put_word.ensures ∙ (λ i. put_bits (c.in-Some.ensures.cases.same i) 0 (turned i)))
    ∙ put_bits_first blank 0 (low 32 c.args.tree) wide (omega (arith, length-low 32 c.args.tree))
    ∙ ap (λ (xs : List ℕ). put_bits xs 0 (low 32 c.args.tree)) (c.blank_area.ensures.area ∙ blanked_wide area (omega (arith, c.blank_area.auto.area)))
    ∙ sym (opened_wide c.args.tree area (omega (arith, c.blank_area.auto.area)))
    in
    record { area = is; past = opened_past c.args.tree area is }

pub returns-in_default-clause-area : goal.returns-in_default-clause-area
returns-in_default-clause-area c =
    let area = c.args.area.now in
    c.blank_area.ensures.area ∙ blanked_short area (search rules) ∙ sym (opened_short c.args.tree area (search rules))
