-- The fields of a line with their places. Assumes nothing.
--
-- Word          a field: its place in the line, counted from 0, and its bytes
-- worded        the pieces that are not empty, with their places from there on
-- words         the fields of a line: its pieces between bytes 32 that are not empty
-- words_from    the same of a line's rest, whose first byte has that place
-- missing       a field that is not there: empty, at the line's end
-- word_at       the field of that number, or a missing one
-- word_end      the place just past a field
-- seen          the word that a field of the program is
-- First         a field is the first of a line from some place on, and the others are those past it
-- Cutting       the first six fields of a line, by what they are for
-- cutting       those of a line
-- seen_cut      those that the program cut
use Rattle.std.specs.Prelude.{◌≡◌, ℕ, suc, ◌+◌, ◌≤◌, List, [], ◌∷◌, length, drop, slice_index_or}
use Rattle.cards.specs.declared.field.Field.{Field}
use Rattle.cards.specs.declared.field.Cut.{Cut}
use Rattle.cards.specs.Parts.{parts}

pub record Word : Type 0 where
  pub place : ℕ
  pub text : List ℕ

abbrev pub worded : ℕ → List (List ℕ) → List Word
worded at [] = []
worded at ([] ∷ ws) = worded (suc at) ws
worded at ((b ∷ w) ∷ ws) = record { place = at; text = b ∷ w } ∷ worded (suc (at + length (b ∷ w))) ws

abbrev pub words_from : ℕ → List ℕ → List Word
words_from at bs = worded at (parts 32 bs)

abbrev pub words : List ℕ → List Word
words line = words_from 0 line

abbrev pub missing : List ℕ → Word
missing line = record { place = length line; text = [] }

abbrev pub word_at : List ℕ → ℕ → Word
word_at line k = slice_index_or (words line) k (missing line)

abbrev pub word_end : Word → ℕ
word_end w = w.place + length w.text

abbrev pub seen : Field → Word
seen f = record { place = f.place; text = f.text.now }

pub record First (line : List ℕ) (from : ℕ) (w : Word) : Type 0 where
  pub is : w ≡ slice_index_or (words_from from (drop from line)) 0 (missing line)
  pub more : words_from (word_end w) (drop (word_end w) line) ≡ drop 1 (words_from from (drop from line))
  pub within : word_end w ≤ length line

pub record Cutting : Type 0 where
  pub first : Word
  pub tail : Word
  pub head : Word
  pub value : Word
  pub fifth : Word
  pub sixth : Word

abbrev pub cutting : List ℕ → Cutting
cutting line = record {
  first = word_at line 0;
  tail = word_at line 1;
  head = word_at line 2;
  value = word_at line 3;
  fifth = word_at line 4;
  sixth = word_at line 5;
}

abbrev pub seen_cut : Cut → Cutting
seen_cut c = record {
  first = seen c.first;
  tail = seen c.tail;
  head = seen c.head;
  value = seen c.value;
  fifth = seen c.fifth;
  sixth = seen c.sixth;
}
