use Rattle.std.proofs.Common.{ℕ, ◌+◌, ◌++◌, Bool, List, length, drop, sym, ap, ◌∙◌, le-ltb, arith}
use Rattle.sheet.specs.Refusals.{granted, refuse}
use Rattle.slips.specs.Bits.{put_bits, high}
use Rattle.slips.specs.Entries.{entries_bits}
use Rattle.slips.specs.Slips.{row_bits}
use Rattle.slips.proofs.Putting.{row_put, put_bits_first}
use Rattle.slips.proofs.Reading.{length_row}
use Rattle.slips.proofs.rows.put_row.Goals as goal

pub returns : goal.returns
returns c =
    let area = c.args.area.now in
    let at = c.args.at in
    let number = c.args.number in
    let es = c.args.entries.now in
    let cases = c.in-Some.ensures.cases in
    record {
      answers = ap (λ (b : Bool). refuse 17 b (granted (tt {0}))) (sym (le-ltb (length area) 280 cases.enough));
      area =
          ap (λ (xs : List ℕ). xs ++ drop 280 area)
          (c.put_entries.ensures
          ∙ ap (λ (xs : List ℕ). put_bits xs (at + 5) (entries_bits es)) (c.put_word.ensures ∙ ap (λ (xs : List ℕ). put_bits xs at (high 5 number)) cases.same)
          ∙ row_put _ at number es)
          ∙ put_bits_first area at (row_bits number es) cases.enough (omega (arith, length_row number es c.requires.count));
    }
