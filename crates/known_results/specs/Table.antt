-- The table of known results: small circuits and numbers with their answers worked out by hand. Assumes nothing.
--
-- branch k c a b v    a placement: at place k, of kind c, from node a to node b, with value v and start 0
-- circuit ps          the sheet that these placements make of a blank one, first to last
-- members ⊖ against   a row: the word of its members, and that of those with minus
-- SlipIs p bytes      writing the slip of p into an area of 280 bytes or more answers the count of these bytes and
--                     leaves them in front, with zero bytes after them up to 280
-- step h s            a step of length h with 32 rows and an area of 304 places, in remainders modulo 8,191
-- figures n           current and voltage of the places below n after an answer; 8,191 - x stands for -x
-- low_pass            voltage source 6 V over a resistor of 2 ohms and a capacitor of 1 farad
-- two_voltages        two voltage sources side by side
-- two_currents        two current sources in one ring
-- opposed             resistors of 1 and of -1 ohms side by side
-- bridge              two inductors, two resistors and a capacitor
-- KnownResults        all known answers together
use Rattle.std.specs.Prelude.{◌≡◌, ℕ, ◌<◌, ◌≤◌, true, false, List, [], ◌∷◌, map, length, pos, negsuc, Some, Result, slice_index}
use Rattle.std.specs.Float.{fin}
use Rattle.std.specs.List.{range_with_len}
use Rattle.arithmetic.specs.Ops.{Ops, may_divide}
use Rattle.arithmetic.specs.Residues.{Residue, residue, residue_ops}
use Rattle.inverses.specs.Inverse.{inverse_of}
use Rattle.sheet.specs.declared.kind.Kind.{Kind}
use Rattle.sheet.specs.declared.kind.Kind.TheVariants.{Resistor, Inductor, Capacitor, VoltageSource, CurrentSource}
use Rattle.sheet.specs.declared.placement.Placement.{Placement}
use Rattle.sheet.specs.declared.plan.Plan.{Plan}
use Rattle.sheet.specs.declared.refusal.Refusal.{Refusal}
use Rattle.sheet.specs.declared.refusal.Shown.{Shown}
use Rattle.sheet.specs.Calls.{Sheet, place}
use Rattle.sheet.specs.Kinds.{mark}
use Rattle.sheet.specs.Refusals.{Answer, granted, refused, told, after}
use Rattle.topology.specs.Trees.{tree_of, loop_row_of, cut_row_of}
use Rattle.plan_slips.specs.Own.{OwnSlip}
use Rattle.stories.specs.Steps.{row_at, stepped}
use Rattle.stories.specs.Stories.{StoryCall, on_sheet, run, blank_sheet}
use Rattle.figures.specs.Readings.{thousandths, reading_of}

infix 50 ◌⊖◌
abbrev pub branch : ℕ → Kind → ℕ → ℕ → ℕ → Placement Residue
branch k c a b v = record { number = k; kind = (mark c).number; tail = a; head = b; value = residue v; start = residue 0 }

-- the calls of these placements after the calls cs, latest first
unfoldable pub placing : List (Placement Residue) → List (StoryCall Residue) → List (StoryCall Residue)
placing [] cs = cs
placing (p ∷ ps) cs = placing ps (on_sheet 32 (place p) ∷ cs)

unfoldable pub circuit : List (Placement Residue) → Sheet Residue
circuit ps = run residue_ops (placing ps [])

abbrev pub ◌⊖◌ : ℕ → ℕ → Shown
members ⊖ against = record { members = members; against = against }

pub record SlipIs (p : Plan) (bytes : List ℕ) : Type 0 where
  pub answers : (before after : List ℕ) (r : Result ℕ Refusal) → OwnSlip p before after r → 280 ≤ length before → told r ≡ granted (length bytes)
  pub leaves : (before after : List ℕ) (r : Result ℕ Refusal) → OwnSlip p before after r → 280 ≤ length before → (k : ℕ) → k < 280 → slice_index after k ≡ slice_index bytes k

abbrev pub step : Residue → Sheet Residue → Answer (Sheet Residue)
step h s = stepped residue_ops 32 304 h s

unfoldable pub figures : ℕ → Answer (Sheet Residue) → Answer (List (ℕ × ℕ))
figures n a = after a (λ s. granted (map (λ k. ((row_at residue_ops s.rows k).current.0, (row_at residue_ops s.rows k).voltage.0)) (range_with_len 0 n)))

unfoldable pub low_pass : Sheet Residue
low_pass = circuit (branch 0 VoltageSource 1 0 6 ∷ branch 1 Resistor 1 2 2 ∷ branch 2 Capacitor 2 0 1 ∷ [])

unfoldable pub two_voltages : Sheet Residue
two_voltages = circuit (branch 0 VoltageSource 1 0 1 ∷ branch 1 VoltageSource 1 0 1 ∷ [])

unfoldable pub two_currents : Sheet Residue
two_currents = circuit (branch 0 CurrentSource 1 0 1 ∷ branch 1 CurrentSource 0 1 1 ∷ [])

unfoldable pub opposed : Sheet Residue
opposed = circuit (branch 0 Resistor 1 0 1 ∷ branch 1 Resistor 1 0 8190 ∷ [])

unfoldable pub bridge : Sheet Residue
bridge = circuit (branch 0 Inductor 1 2 1 ∷ branch 1 Inductor 1 4 1 ∷ branch 2 Resistor 3 4 1 ∷ branch 3 Capacitor 2 3 1 ∷ branch 4 Resistor 2 3 1 ∷ [])

pub record KnownResults {M : Type 0} (o : Ops M) : Type 0 where
  -- the low pass: its tree, cut rows, loop row and slip, and one step of length 1 with currents -2, 2, 2
  pub low_pass_tree : tree_of low_pass.plan ≡ granted 0b101
  pub low_pass_cut_0 : cut_row_of low_pass.plan 0 ≡ granted (Some (0b011 ⊖ 0b000))
  pub low_pass_cut_2 : cut_row_of low_pass.plan 2 ≡ granted (Some (0b110 ⊖ 0b010))
  pub low_pass_loop_1 : loop_row_of low_pass.plan 1 ≡ granted (Some (0b111 ⊖ 0b001))
  pub low_pass_slip : SlipIs low_pass.plan (0xA0 ∷ 0 ∷ 0 ∷ 0 ∷ 0x0E ∷ 0xA0 ∷ 0 ∷ 0 ∷ 0 ∷ 0 ∷ 0 ∷ 0 ∷ 0 ∷ [])
  pub low_pass_step : figures 3 (step (residue 1) low_pass) ≡ granted ((8189, 6) ∷ (2, 4) ∷ (2, 2) ∷ [])
  -- refusals: a loop of voltage sources, a cut of current sources, no pivot
  pub two_voltages_lem : tree_of two_voltages.plan ≡ refused (record { number = 12; words = 0b11 ∷ 0b01 ∷ [] })
  pub two_currents_lem : tree_of two_currents.plan ≡ refused (record { number = 13; words = 0b11 ∷ 0b10 ∷ [] })
  pub opposed-step : step (residue 1) opposed ≡ refused (record { number = 14; words = [] })
  -- the bridge
  pub bridge_tree : tree_of bridge.plan ≡ granted 0b01101
  pub bridge_loop_1 : loop_row_of bridge.plan 1 ≡ granted (Some (0b01111 ⊖ 0b01101))
  pub bridge_loop_4 : loop_row_of bridge.plan 4 ≡ granted (Some (0b11000 ⊖ 0b01000))
  -- a step on the blank sheet, in every arithmetic
  pub blank_step : (h : M) (area : ℕ) → o.is_sound h ≡ true → may_divide o h ≡ true → 304 ≤ area → stepped o 32 area h (blank_sheet o) ≡ granted (blank_sheet o)
  -- inverses modulo 8,191, and the readings of 1/16 V and -1/16 V
  pub inverses : map inverse_of (2 ∷ 3 ∷ 4 ∷ []) ≡ 4096 ∷ 5461 ∷ 2048 ∷ []
  pub reading : reading_of (thousandths (fin false 1 (negsuc 3))) ≡ granted (pos 63)
  pub reading_below : reading_of (thousandths (fin true 1 (negsuc 3))) ≡ granted (negsuc 62)
