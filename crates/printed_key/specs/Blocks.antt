-- The blocks of a printed key, line by line. Assumes nothing.
--
-- member_words     the number of a member of a word
-- sided            a number behind its sign
-- signed_words     the number of a member of a shown row, `-` before one that points against it
-- tree_line        `tree` with the members of the tree
-- row_line         `loop` or `cut` with the row's branch and its signed members
-- row_lines        the line of a row, where there is one
-- loop_lines       the line of a place's loop row, if it has one
-- cut_lines        the line of its cut row, if it has one
-- network_lines    the tree, a line for each link, a line for each tree branch
-- refused_line     `refused`, the number, and the signed members of a shown loop or cut
-- fault_line       `refused`, the number, and the line and byte of the fault
-- shown_words      the signed members of a shown loop or cut
-- refusal_of       the refusal of what stands in the way of a block
-- stop_words       the words after `refused` of what stands in the way of a block
-- stop_line        that line
-- or_refused       the lines of what was granted, or the one refusal
-- one_step         a sheet after one step of length 1
-- reading_here     the reading at a place, none where the place is empty
-- readings_below   those of the places below a number, or the first refusal
-- readings_after   the readings after one step, or the first refusal
-- reading_line     the `mv` line of a place, if it has a reading
-- reading_lines    `mv`, the number and the reading, for each branch
-- step_lines       the block of readings of a sheet
-- remainders_line  `res`, the number, the current and the voltage
-- remainder_line   such a line for a place, if a branch stands there
-- remainder_lines  such a line for each branch
-- or_fault_by      the lines, or the one fault, by the fault
-- or_fault         the lines of a sheet that was read, or the one fault
-- residue_step_lines   the lines of a sheet after one step in remainders, or its refusal
-- residue_lines    the block of remainders of a text of cards
-- residue_lines_read   the lines of a sheet that was read and stepped, or of what stands in its way
use Rattle.std.specs.Prelude.{ℕ, zero, suc, Bool, true, false, cond, List, [], ◌∷◌, ◌++◌, ℤ, Some, None, Ok, Err, codes, decimal, Option, Result, slice_index_or, Float}
use Rattle.std.specs.Fmt.{signed_decimal}
use Rattle.arithmetic.specs.Binary64.{binary64_ops}
use Rattle.arithmetic.specs.Ops.{Ops}
use Rattle.arithmetic.specs.Residues.{Residue, residue, residue_ops}
use Rattle.cards.specs.Following.{blank_sheet}
use Rattle.cards.specs.Reading.{Named, named, State, cards_read}
use Rattle.figures.specs.Readings.{reading_at}
use Rattle.sheet.specs.declared.look.Look.{Look}
use Rattle.sheet.specs.declared.plan.Plan.{Plan}
use Rattle.sheet.specs.declared.refusal.Refusal.{Refusal}
use Rattle.sheet.specs.declared.refusal.Shown.{Shown}
use Rattle.sheet.specs.declared.row.Row.{Row}
use Rattle.sheet.specs.Calls.{Sheet}
use Rattle.sheet.specs.Looks.{seen}
use Rattle.sheet.specs.Meanings.{meant_sheet}
use Rattle.sheet.specs.Refusals.{Answer, granted, refused, after, Told, means}
use Rattle.stories.specs.Steps.{stepped}
use Rattle.networks.specs.Networks.{placed}
use Rattle.topology.specs.Trees.{loop_row_of, cut_row_of}
use Rattle.networks.specs.Words.{bits}
use Rattle.printed_key.specs.declared.card_sheet.CardSheet.{CardSheet}
use Rattle.printed_key.specs.declared.stop.Stop.{Stop}
use Rattle.printed_key.specs.declared.stop.Stop.TheVariants.{Refused, Faulty}
use Rattle.printed_key.specs.Text.{Word, Line, listed}

abbrev pub member_words : ℕ → ℕ → List Word
member_words w k = cond (bits w k) (decimal k ∷ []) []

abbrev pub sided : Bool → ℕ → Word
sided true k = 45 ∷ decimal k
sided false k = 43 ∷ decimal k

abbrev pub signed_words : Shown → ℕ → List Word
signed_words s k = cond (bits s.members k) (sided (bits s.against k) k ∷ []) []

abbrev pub tree_line : ℕ → Line
tree_line w = record { name = codes "tree"; words = listed (member_words w) 32 }

abbrev pub row_line : Word → ℕ → Shown → Line
row_line name k s = record { name = name; words = decimal k ∷ listed (signed_words s) 32 }

abbrev pub row_lines : Word → ℕ → Answer (Option Shown) → List Line
row_lines name k (granted None) = []
row_lines name k (granted (Some s)) = row_line name k s ∷ []
row_lines name k (refused t) = []

abbrev pub loop_lines : Plan → ℕ → List Line
loop_lines p k = row_lines (codes "loop") k (loop_row_of p k)

abbrev pub cut_lines : Plan → ℕ → List Line
cut_lines p k = row_lines (codes "cut") k (cut_row_of p k)

abbrev pub network_lines : Plan → ℕ → List Line
network_lines p w = tree_line w ∷ (listed (loop_lines p) 32 ++ listed (cut_lines p) 32)

abbrev pub shown_words : List ℕ → List Word
shown_words [] = []
shown_words (m ∷ []) = []
shown_words (m ∷ a ∷ ws) = listed (signed_words (record { members = m; against = a })) 32

abbrev pub refused_line : Told → Line
refused_line t = record { name = codes "refused"; words = decimal t.number ∷ shown_words t.words }

abbrev pub fault_line : Named → Line
fault_line f = record {
  name = codes "refused";
  words = decimal f.told.number ∷ codes "line" ∷ decimal f.line ∷ codes "byte" ∷ decimal f.byte ∷ [];
}

abbrev pub refusal_of : Stop → Refusal
refusal_of (Refused r) = r
refusal_of (Faulty f) = f.refusal

abbrev pub stop_words : Stop → List Word
stop_words (Refused r) = decimal (means r).number ∷ shown_words (means r).words
stop_words (Faulty f) = (fault_line (named f)).words

abbrev pub stop_line : Stop → Line
stop_line stop = record { name = codes "refused"; words = stop_words stop }

abbrev pub or_refused : {X : Type 0} → (X → List Line) → Answer X → List Line
or_refused f (granted x) = f x
or_refused f (refused t) = refused_line t ∷ []

abbrev pub one_step : {M : Type 0} → Ops M → Sheet M → Answer (Sheet M)
one_step o s = stepped o 32 304 o.one s

abbrev pub reading_here : Plan → List (Row Float) → ℕ → Answer (Option ℤ)
reading_here p rows k = cond (placed p k) (after (reading_at p rows k) (λ z. granted (Some z))) (granted None)

unfoldable pub readings_below : Plan → List (Row Float) → ℕ → Answer (List (Option ℤ))
readings_below p rows zero = granted []
readings_below p rows (suc n) =
    after (readings_below p rows n) (λ zs. after (reading_here p rows n) (λ z. granted (zs ++ (z ∷ []))))

abbrev pub reading_line : ℕ → Option ℤ → List Line
reading_line k None = []
reading_line k (Some z) = record { name = codes "mv"; words = decimal k ∷ signed_decimal z ∷ [] } ∷ []

abbrev pub reading_lines : List (Option ℤ) → List Line
reading_lines zs = listed (λ k. reading_line k (slice_index_or zs k None)) 32

abbrev pub readings_after : Sheet Float → Answer (List (Option ℤ))
readings_after s = after (one_step binary64_ops s) (λ t. readings_below t.plan t.rows 32)

unfoldable pub step_lines : Sheet Float → List Line
step_lines s = or_refused reading_lines (readings_after s)

abbrev pub remainders_line : ℕ → ℕ → ℕ → Line
remainders_line k i u = record { name = codes "res"; words = decimal k ∷ decimal i ∷ decimal u ∷ [] }

abbrev pub remainder_line : ℕ → Option (Look Residue) → List Line
remainder_line k None = []
remainder_line k (Some l) = remainders_line k l.current.0 l.voltage.0 ∷ []

abbrev pub remainder_lines : Sheet Residue → List Line
remainder_lines s = listed (λ k. remainder_line k (seen (residue 0) s.plan s.rows k)) 32

abbrev pub or_fault_by : {M : Type 0} → (Sheet M → List Line) → Option Named → Sheet M → List Line
or_fault_by f None s = f s
or_fault_by f (Some e) s = fault_line e ∷ []

abbrev pub or_fault : {M : Type 0} → (Sheet M → List Line) → State M → List Line
or_fault f st = or_fault_by f st.fault st.sheet

abbrev pub residue_step_lines : Sheet Residue → List Line
residue_step_lines s = or_refused remainder_lines (one_step residue_ops s)

unfoldable pub residue_lines : List ℕ → List Line
residue_lines input = or_fault residue_step_lines (cards_read residue_ops input (blank_sheet residue_ops))

abbrev pub residue_lines_read : Result (CardSheet ℕ) Stop → List Line
residue_lines_read (Ok s) = remainder_lines (meant_sheet residue (record { plan = s.plan; rows = s.rows }))
residue_lines_read (Err stop) = stop_line stop ∷ []
