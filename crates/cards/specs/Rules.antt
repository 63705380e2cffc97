-- What a line of cards must be in an arithmetic, and what is wrong with it if it is not. Assumes nothing.
--
-- Means           a text is a numeral whose denominator may be divided by, and that is its value
-- Starts          what follows the value: nothing, or on an inductor or a capacitor one start
-- IsCard          a line is this card
-- Starred         a line whose first field begins with a star
-- Skipped         a line without fields, or whose first byte that is no space is a star
-- Fails           a thing does not hold, and this is the fault
-- Check           one of the things that are asked of a line: when it holds, and which fault it is when not
-- FirstWrong      the first of the checks that fails, with its fault
-- number_check    a field is a branch or node number; 22
-- value_check     a field is a numeral, 22, that means something in this arithmetic, 23
-- start_check_by  the same of a start, where one stands
-- over_check      a field is not there; 24
-- card_checks     what is asked of a card, in order
-- asked           the fields by number, a missing one at the line's end
-- WrongFor        the letter is none, 21, or it is one and a check of the card fails
-- WrongLine       a line that is neither skipped nor a card: its first fault
use Rattle.std.specs.Prelude.{◌≡◌, ℕ, suc, Bool, true, false, not, ◌&&◌, ◌⊎◌, List, [], ◌∷◌, slice_index_or}
use Rattle.arithmetic.specs.Ops.{Ops, may_divide}
use Rattle.sheet.specs.declared.kind.Kind.{Kind}
use Rattle.sheet.specs.declared.placement.Placement.{Placement}
use Rattle.sheet.specs.Kinds.{mark, is_source, has_start}
use Rattle.sheet.specs.Refusals.{Told}
use Rattle.cards.specs.declared.numeral.Numeral.{Numeral}
use Rattle.cards.specs.Cards.{byte_of, is_empty, whole_in, amount, over_of}
use Rattle.cards.specs.Fields.{Word, Cutting, missing}
use Rattle.cards.specs.Numerals.{number_digits}
use Rattle.cards.specs.Shapes.{Laid, Writes, Shows}

pub record Means {M : Type 0} (o : Ops M) (sign : Bool) (text : List ℕ) (v : M) : Type 0 where
  pub numeral : Numeral
  pub shows : Shows sign text numeral
  pub divides : may_divide o (whole_in o numeral.under) ≡ true
  pub is : v ≡ amount o numeral

abbrev pub Starts : {M : Type 0} → Ops M → Kind → List Word → M → Type 0
Starts o k [] s = s ≡ o.nought
Starts o k (w ∷ []) s = (has_start k ≡ true) × Means o true w.text s
Starts o k (w ∷ v ∷ ws) s = ⊥

pub record IsCard {M : Type 0} (o : Ops M) (line : List ℕ) (p : Placement M) : Type 0 where
  pub first : Word
  pub tail : Word
  pub head : Word
  pub value : Word
  pub more : List Word
  pub fields : Laid 0 line (first ∷ tail ∷ head ∷ value ∷ more)
  pub kind : Kind
  pub number : List ℕ
  pub letter : first.text ≡ (mark kind).letter ∷ number
  pub numbered : Writes number_digits number p.number
  pub kinded : p.kind ≡ (mark kind).number
  pub from : Writes number_digits tail.text p.tail
  pub to : Writes number_digits head.text p.head
  pub valued : Means o (is_source kind) value.text p.value
  pub started : Starts o kind more p.start

pub record Starred (line : List ℕ) : Type 0 where
  pub first : Word
  pub rest : List ℕ
  pub others : List Word
  pub fields : Laid 0 line (first ∷ others)
  pub star : first.text ≡ 42 ∷ rest

abbrev pub Skipped : List ℕ → Type 0
Skipped line = Laid 0 line [] ⊎ Starred line

pub record Fails (n byte : ℕ) (Holds : Type 0) (t : Told) (b : ℕ) : Type 0 where
  pub not_so : Holds → ⊥
  pub told : t ≡ record { number = n; words = [] }
  pub at : b ≡ byte

pub record Check : Type 1 where
  pub Holds : Type 0
  pub Wrong : Told → ℕ → Type 0

abbrev pub FirstWrong : List Check → Told → ℕ → Type 0
FirstWrong [] t b = ⊥
FirstWrong (c ∷ cs) t b = c.Wrong t b ⊎ (c.Holds × FirstWrong cs t b)

abbrev pub number_check : Word → Check
number_check w = record {
  Holds = (n : ℕ) × Writes number_digits w.text n;
  Wrong = Fails 22 (byte_of w) ((n : ℕ) × Writes number_digits w.text n);
}

abbrev pub value_check : {M : Type 0} → Ops M → Bool → Word → Check
value_check {M} o sign w = record {
  Holds = (v : M) × Means o sign w.text v;
  Wrong = λ t b.
      Fails 22 (byte_of w) ((m : Numeral) × Shows sign w.text m) t b
      ⊎ (((m : Numeral) × Shows sign w.text m) × Fails 23 (byte_of w) ((v : M) × Means o sign w.text v) t b);
}

abbrev pub start_check_by : {M : Type 0} → Ops M → Bool → Word → Check
start_check_by o true w = value_check o true w
start_check_by o false w = record { Holds = Unit {0}; Wrong = λ t b. ⊥ }

abbrev pub over_check : Word → Check
over_check w = record { Holds = w.text ≡ []; Wrong = Fails 24 (byte_of w) (w.text ≡ []) }

abbrev pub card_checks : {M : Type 0} → Ops M → Kind → Word → Cutting → List Check
card_checks o k number c =
    number_check number
    ∷ number_check c.tail
    ∷ number_check c.head
    ∷ value_check o (is_source k) c.value
    ∷ start_check_by o (has_start k && not (is_empty c.fifth.text)) c.fifth
    ∷ over_check (over_of k c)
    ∷ []

abbrev pub asked : List ℕ → List Word → Cutting
asked line fs = record {
  first = slice_index_or fs 0 (missing line);
  tail = slice_index_or fs 1 (missing line);
  head = slice_index_or fs 2 (missing line);
  value = slice_index_or fs 3 (missing line);
  fifth = slice_index_or fs 4 (missing line);
  sixth = slice_index_or fs 5 (missing line);
}

abbrev pub WrongFor : {M : Type 0} → Ops M → Word → ℕ → List ℕ → Cutting → Told → ℕ → Type 0
WrongFor o first b number c t byte =
    Fails 21 (byte_of first) ((k : Kind) × ((mark k).letter ≡ b)) t byte
    ⊎ ((k : Kind) × ((mark k).letter ≡ b) × FirstWrong (card_checks o k (record { place = suc first.place; text = number }) c) t byte)

pub record WrongLine {M : Type 0} (o : Ops M) (line : List ℕ) (t : Told) (byte : ℕ) : Type 0 where
  pub first : Word
  pub others : List Word
  pub fields : Laid 0 line (first ∷ others)
  pub b : ℕ
  pub number : List ℕ
  pub text : first.text ≡ b ∷ number
  pub plain : b ≡ 42 → ⊥
  pub wrong : WrongFor o first b number (asked line (first ∷ others)) t byte
