-- What it is for a text to follow the card rules, and what the first fault is of one that does not. Assumes nothing.
--
-- LineSays       a line is skipped, or it is this card
-- Says           each line is skipped or a card: these are the cards, with nothing for a skipped line
-- cards_of       the cards among them
-- blank_sheet    the sheet with no branch and 32 rows of zeros
-- placing        what placing a card answers
-- Placed         placing these cards in order is granted each time, and ends at that sheet
-- Follows        the text follows the rules, with these cards and that sheet
-- FaultOf        a fault of a line, where the cards before it left that sheet: of the card rules, or of the sheet at byte 1
-- FaultAmong     of these lines, which follow n others, every one before is right and its card is placed, and the next has this fault
-- FirstFault     the same of a whole text
-- Accepts        the answer is none exactly where the text follows the rules, and the sheet is then the one
-- Blames         a fault is the first, and no other is named
use Rattle.std.specs.Prelude.{◌≡◌, ℕ, suc, ◌+◌, ◌⊎◌, List, [], ◌∷◌, ◌++◌, length, replicate, Some, None, Option, ◌≢◌}
use Rattle.arithmetic.specs.Ops.{Ops}
use Rattle.sheet.specs.declared.placement.Placement.{Placement}
use Rattle.sheet.specs.Calls.{Sheet, place, outcome, zero_row}
use Rattle.sheet.specs.Plans.{empty_plan}
use Rattle.sheet.specs.Meanings.{meanings}
use Rattle.sheet.specs.Refusals.{Answer, granted, refused}
use Rattle.cards.specs.declared.fault.Layer.TheVariants as layer
use Rattle.cards.specs.Reading.{Named}
use Rattle.cards.specs.Rules.{IsCard, Skipped, WrongLine}
use Rattle.cards.specs.Shapes.{Parted}

abbrev pub cards_of : {P : Type 0} → List (Option P) → List P
cards_of [] = []
cards_of (None ∷ es) = cards_of es
cards_of (Some p ∷ es) = p ∷ cards_of es

module _ {M : Type 0} (o : Ops M) where
  abbrev pub LineSays : List ℕ → Option (Placement M) → Type 0
  LineSays line None = Skipped line
  LineSays line (Some p) = IsCard o line p

  abbrev pub Says : List (List ℕ) → List (Option (Placement M)) → Type 0
  Says [] [] = Unit {0}
  Says [] (e ∷ es) = ⊥
  Says (l ∷ ls) [] = ⊥
  Says (l ∷ ls) (e ∷ es) = LineSays l e × Says ls es

  abbrev pub blank_sheet : Sheet M
  blank_sheet = record { plan = empty_plan; rows = replicate 32 (zero_row (meanings o)) }

  abbrev pub placing : Placement M → Sheet M → Answer (Sheet M)
  placing p s = outcome (meanings o) (length s.rows) (place p) s

  abbrev pub Placed : Sheet M → List (Placement M) → Sheet M → Type 0
  Placed s [] t = s ≡ t
  Placed s (p ∷ ps) t = (u : Sheet M) × (placing p s ≡ granted u) × Placed u ps t

  pub record Follows (input : List ℕ) (cards : List (Placement M)) (sheet : Sheet M) : Type 0 where
    pub lines : List (List ℕ)
    pub parted : Parted 10 input lines
    pub says : List (Option (Placement M))
    pub right : Says lines says
    pub cards_are : cards_of says ≡ cards
    pub placed : Placed blank_sheet cards sheet

  abbrev pub FaultOf : List ℕ → Sheet M → Named → Type 0
  FaultOf line s f =
      ((f.layer ≡ layer.Cards) × WrongLine o line f.told f.byte)
      ⊎ ((p : Placement M) × IsCard o line p × (placing p s ≡ refused f.told) × (f.layer ≡ layer.Sheet) × (f.byte ≡ 1))

  pub record FaultAmong (lines : List (List ℕ)) (n : ℕ) (s : Sheet M) (f : Named) (sheet : Sheet M) : Type 0 where
    pub before : List (List ℕ)
    pub line : List ℕ
    pub behind : List (List ℕ)
    pub are : lines ≡ before ++ (line ∷ behind)
    pub says : List (Option (Placement M))
    pub right : Says before says
    pub placed : Placed s (cards_of says) sheet
    pub number : f.line ≡ suc n + length before
    pub wrong : FaultOf line sheet f

  pub record FirstFault (input : List ℕ) (f : Named) (sheet : Sheet M) : Type 0 where
    pub lines : List (List ℕ)
    pub parted : Parted 10 input lines
    pub among : FaultAmong lines 0 blank_sheet f sheet

  pub record Accepts (input : List ℕ) (rows : ℕ) (fault : Option Named) (sheet : Sheet M) : Type 0 where
    pub sound : fault ≡ None → (rows ≡ 32) × ((cards : List (Placement M)) × Follows input cards sheet)
    pub complete : rows ≡ 32 → (cards : List (Placement M)) (t : Sheet M) → Follows input cards t → (fault ≡ None) × (sheet ≡ t)
    pub unique : (cards cards' : List (Placement M)) (t t' : Sheet M) → Follows input cards t → Follows input cards' t' → (cards ≡ cards') × (t ≡ t')

  pub record Blames (input : List ℕ) (rows : ℕ) (before : Sheet M) (fault : Option Named) (sheet : Sheet M) : Type 0 where
    pub table : (rows ≢ 32) → (fault ≡ Some (record { layer = layer.Sheet; told = record { number = 1; words = [] }; line = 0; byte = 0 })) × (sheet ≡ before)
    pub first : rows ≡ 32 → (f : Named) → fault ≡ Some f → FirstFault input f sheet
    pub only : rows ≡ 32 → (f : Named) (t : Sheet M) → FirstFault input f t → (fault ≡ Some f) × (sheet ≡ t)
