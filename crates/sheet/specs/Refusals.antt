-- Refusals: the one definition of each case's number and of the words that it shows. Assumes nothing.
--
-- Told          what a refusal tells: its number, and the words that it shows
-- means         each case's number and words
-- shown_of      the words of a shown loop or cut: the members, and those against
-- Answer X      a call's answer: granted with an X, or refused
-- told          the answer that a result of the program is
-- Verdict       an answer without what was granted
-- verdict       the verdict of a result of the program
-- verdict_of    the verdict of an answer
-- refuse        refused by that number where the test holds, else what follows
-- after         what follows a granted answer
use Rattle.std.specs.Prelude.{ℕ, Bool, true, false, List, [], ◌∷◌, Some, None, Ok, Err, Option, Result}
use Rattle.sheet.specs.declared.refusal.Shown.{Shown}
use Rattle.sheet.specs.declared.refusal.Refusal.{Refusal}
use Rattle.sheet.specs.declared.refusal.Refusal.TheVariants.{WrongLength, NoSuchPlace, PlaceTaken, PlaceEmpty, NoSuchKind, NoSuchNode, EndsMeet, BadValue, BadStart, NotASource, BadStepLength, VoltageLoop, CurrentCut, NoPivot, UnsoundResult, BadSlipRow, SlipAreaShort, ReadingOutOfRange, TraceNotFinite, TraceFull, NoSuchLetter, BadNumberField, ZeroDenominator, FieldLeftOver, InputTooLong}

pub record Told : Type 0 where
  pub number : ℕ
  pub words : List ℕ

abbrev pub means : Refusal → Told
means WrongLength = record { number = 1; words = [] }
means NoSuchPlace = record { number = 2; words = [] }
means PlaceTaken = record { number = 3; words = [] }
means PlaceEmpty = record { number = 4; words = [] }
means NoSuchKind = record { number = 5; words = [] }
means NoSuchNode = record { number = 6; words = [] }
means EndsMeet = record { number = 7; words = [] }
means BadValue = record { number = 8; words = [] }
means BadStart = record { number = 9; words = [] }
means NotASource = record { number = 10; words = [] }
means BadStepLength = record { number = 11; words = [] }
means (VoltageLoop s) = record { number = 12; words = s.members ∷ s.against ∷ [] }
means (CurrentCut s) = record { number = 13; words = s.members ∷ s.against ∷ [] }
means NoPivot = record { number = 14; words = [] }
means UnsoundResult = record { number = 15; words = [] }
means BadSlipRow = record { number = 16; words = [] }
means SlipAreaShort = record { number = 17; words = [] }
means ReadingOutOfRange = record { number = 18; words = [] }
means TraceNotFinite = record { number = 19; words = [] }
means TraceFull = record { number = 20; words = [] }
means NoSuchLetter = record { number = 21; words = [] }
means BadNumberField = record { number = 22; words = [] }
means ZeroDenominator = record { number = 23; words = [] }
means FieldLeftOver = record { number = 24; words = [] }
means InputTooLong = record { number = 25; words = [] }

abbrev pub shown_of : Option Shown → List ℕ
shown_of None = []
shown_of (Some s) = s.members ∷ s.against ∷ []

pub data Answer (X : Type 0) : Type 0 where
  granted : X → Answer X
  refused : Told → Answer X

abbrev pub told : {X : Type 0} → Result X Refusal → Answer X
told (Ok x) = granted x
told (Err e) = refused (means e)

abbrev pub refuse : {X : Type 0} → ℕ → Bool → Answer X → Answer X
refuse n true rest = refused (record { number = n; words = [] })
refuse n false rest = rest

abbrev pub after : {X Y : Type 0} → Answer X → (X → Answer Y) → Answer Y
after (granted x) f = f x
after (refused t) f = refused t

pub data Verdict : Type 0 where
  pass : Verdict
  fail : Told → Verdict

abbrev pub verdict : {X : Type 0} → Result X Refusal → Verdict
verdict (Ok x) = pass
verdict (Err e) = fail (means e)

abbrev pub verdict_of : {X : Type 0} → Answer X → Verdict
verdict_of (granted x) = pass
verdict_of (refused t) = fail t
