-- The lines that a reader has before it. Assumes nothing.
--
-- lines_from   the lines of a text from a place on; none past its end
-- lines_left   the lines that a reader has yet to read
-- Took         a reader took a line: that was the first, and the others are left
-- GivesLine    it took a line, or there was none and there is none
use Rattle.std.specs.Prelude.{◌≡◌, ℕ, suc, cond, List, [], ◌∷◌, length, drop, Some, None, Option, nat_le}
use Rattle.cards.specs.declared.reader.Line.{Line}
use Rattle.cards.specs.declared.reader.Reader.{Reader}
use Rattle.cards.specs.Parts.{parts}

abbrev pub lines_from : List ℕ → ℕ → List (List ℕ)
lines_from input at = cond (nat_le at (length input)) (parts 10 (drop at input)) []

abbrev pub lines_left : Reader → List (List ℕ)
lines_left r = lines_from r.input.now r.byte

pub record Took (before : Reader) (line : Line) (after : Reader) : Type 0 where
  pub left : lines_left before ≡ line.text.now ∷ lines_left after
  pub number : line.number ≡ suc before.lines
  pub counted : after.lines ≡ suc before.lines

abbrev pub GivesLine : Reader → Option Line → Reader → Type 0
GivesLine before (Some line) after = Took before line after
GivesLine before None after = (lines_left before ≡ []) × (lines_left after ≡ [])
