-- Texts of lines of words. Assumes nothing.
--
-- Word        a word, by its bytes
-- spaced      words, each with a space before it
-- Line        a line: its first word, and those after it
-- line_text   the bytes of a line: its words parted by a space, and a line feed
-- text_of     the bytes of lines, one line after another
-- listed      what there is for 0, for 1 and so on, below a number
-- Adds        where the call succeeds, these bytes were added to the text
use Rattle.std.specs.Prelude.{◌≡◌, ℕ, zero, suc, List, [], ◌∷◌, ◌++◌, Result, OnOk}

abbrev pub Word : Type 0
Word = List ℕ

unfoldable pub spaced : List Word → List ℕ
spaced [] = []
spaced (w ∷ ws) = 32 ∷ (w ++ spaced ws)

pub record Line : Type 0 where
  pub name : Word
  pub words : List Word

unfoldable pub line_text : Line → List ℕ
line_text l = l.name ++ (spaced l.words ++ (10 ∷ []))

unfoldable pub text_of : List Line → List ℕ
text_of [] = []
text_of (l ∷ ls) = line_text l ++ text_of ls

unfoldable pub listed : {X : Type 0} → (ℕ → List X) → ℕ → List X
listed f zero = []
listed f (suc n) = listed f n ++ f n

abbrev pub Adds : {X E : Type 0} → Result X E → List ℕ → List ℕ → List ℕ → Type 0
Adds r before after bytes = OnOk r (after ≡ before ++ bytes)
