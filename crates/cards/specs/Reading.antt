-- Reading a text of cards onto a sheet, by meaning, line by line. Assumes nothing.
--
-- Named        a fault: who refuses, by which number, and at which line and byte
-- named        what a fault of the program says
-- fault_text   a fault in words: its number, `line` and the line, `byte` and the byte
-- report       what a result of the program says: nothing, or a fault
-- State M      how far it came: nothing wrong or a fault, and the sheet with rows by meaning
-- state_of     the state that the program is in
-- onward       what follows where nothing is wrong yet; onward_by the same by the fault
-- settled      what the sheet answered to the card of the line of that number
-- laid         what is on the line of that number, placed on the sheet
-- line_done    the line of that number
-- lines_done   the lines after the first so many
-- begun        the lines, once the sheet is blank
-- cards_read   a whole text: refused by 1, or blank and line by line
use Rattle.std.specs.Prelude.{ℕ, suc, List, [], ◌∷◌, ◌++◌, length, Some, None, Ok, Err, codes, decimal, Option, Result}
use Rattle.arithmetic.specs.Ops.{Ops}
use Rattle.sheet.specs.declared.placement.Placement.{Placement}
use Rattle.sheet.specs.declared.plan.Plan.{Plan}
use Rattle.sheet.specs.declared.row.Row.{Row}
use Rattle.sheet.specs.Calls.{Sheet, blank, place, outcome}
use Rattle.sheet.specs.Meanings.{meanings, meant_sheet}
use Rattle.sheet.specs.Refusals.{Told, means, Answer, granted, refused}
use Rattle.cards.specs.declared.fault.Fault.{Fault}
use Rattle.cards.specs.declared.fault.Layer.{Layer}
use Rattle.cards.specs.declared.fault.Layer.TheVariants as layer
use Rattle.cards.specs.Cards.{Checked, right, wrong, line_of}
use Rattle.cards.specs.Parts.{parts}

pub record Named : Type 0 where
  pub layer : Layer
  pub told : Told
  pub line : ℕ
  pub byte : ℕ

abbrev pub named : Fault → Named
named f = record { layer = f.layer; told = means f.refusal; line = f.line; byte = f.byte }

abbrev pub fault_text : Named → List ℕ
fault_text f = decimal f.told.number ++ (codes " line " ++ (decimal f.line ++ (codes " byte " ++ decimal f.byte)))

abbrev pub report : {X : Type 0} → Result X Fault → Option Named
report (Ok x) = None
report (Err f) = Some (named f)

pub record State (M : Type 0) : Type 0 where
  pub fault : Option Named
  pub sheet : Sheet M

abbrev pub state_of : {V M X : Type 0} → (V → M) → Result X Fault → Plan → List (Row V) → State M
state_of mean r plan rows = record { fault = report r; sheet = meant_sheet mean (record { plan = plan; rows = rows }) }

abbrev pub onward_by : {M : Type 0} → Option Named → Sheet M → (Sheet M → State M) → State M
onward_by None s go = go s
onward_by (Some f) s go = record { fault = Some f; sheet = s }

abbrev pub onward : {M : Type 0} → State M → (Sheet M → State M) → State M
onward st go = onward_by st.fault st.sheet go

abbrev pub settled : {M : Type 0} → ℕ → Sheet M → Answer (Sheet M) → State M
settled n s (granted t) = record { fault = None; sheet = t }
settled n s (refused t) = record { fault = Some (record { layer = layer.Sheet; told = t; line = n; byte = 1 }); sheet = s }

module _ {M : Type 0} (o : Ops M) where
  abbrev pub laid : ℕ → Sheet M → Checked (Option (Placement M)) → State M
  laid n s (wrong t b) = record { fault = Some (record { layer = layer.Cards; told = t; line = n; byte = b }); sheet = s }
  laid n s (right None) = record { fault = None; sheet = s }
  laid n s (right (Some p)) = settled n s (outcome (meanings o) (length s.rows) (place p) s)

  abbrev pub line_done : ℕ → List ℕ → Sheet M → State M
  line_done n line s = laid n s (line_of o line)

  abbrev pub lines_done : ℕ → List (List ℕ) → Sheet M → State M
  lines_done n [] s = record { fault = None; sheet = s }
  lines_done n (l ∷ ls) s = onward (line_done (suc n) l s) (lines_done (suc n) ls)

  abbrev pub begun : List ℕ → Sheet M → Answer (Sheet M) → State M
  begun input s (granted b) = lines_done 0 (parts 10 input) b
  begun input s (refused t) = record { fault = Some (record { layer = layer.Sheet; told = t; line = 0; byte = 0 }); sheet = s }

  abbrev pub cards_read : List ℕ → Sheet M → State M
  cards_read input s = begun input s (outcome (meanings o) (length s.rows) blank s)
