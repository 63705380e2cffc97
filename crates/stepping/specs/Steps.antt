-- What the code of a step is compared with. Assumes nothing.
--
-- is_feeding      a resistor, an inductor, a capacitor or a current source
-- companion_turn  the area with conductance and feed of the branch k besides
-- Worked          the solved system in the area, and the number of its unknowns if every column has a pivot
-- unsound_at      the branch k is placed and its current or its voltage is unsound
-- renewed_at      the rows with those of the branch k, if it is placed
-- given           what a row was given: its value and its start
-- Settles         a step of the program whose tree is known: this verdict, and these rows after it
-- Others          the rows of empty places are as before
-- settled         what is answered once there is a tree: 14, 15 or the sheet with its new rows
use Rattle.std.specs.Prelude.{◌≡◌, ℕ, ◌+◌, Bool, false, cond, not, ◌&&◌, ◌||◌, List, map, is_some, Some, Option, slice_index_or, slice_set}
use Rattle.arithmetic.specs.Ops.{Ops}
use Rattle.sheet.specs.declared.kind.Kind.{Kind}
use Rattle.sheet.specs.declared.plan.Plan.{Plan}
use Rattle.sheet.specs.declared.row.Row.{Row}
use Rattle.sheet.specs.Calls.{Sheet, left}
use Rattle.sheet.specs.Meanings.{meant_row, meant_sheet}
use Rattle.sheet.specs.Refusals.{Answer, granted, refuse, Told, Verdict, fail, verdict_of}
use Rattle.networks.specs.Networks.{placed}
use Rattle.stories.specs.Assembly.{size}
use Rattle.stories.specs.Companions.{conductance, feed}
use Rattle.stories.specs.Networks.{kind_at, is_passive, is_current}
use Rattle.stories.specs.Steps.{row_at, solving, renewed, renewed_rows, unsound, step_parts, step_result}

abbrev pub is_feeding : Option Kind → Bool
is_feeding k = is_passive k || is_current k

abbrev pub companion_turn : {M : Type 0} → Ops M → Plan → M → (ℕ → Row M) → ℕ → List M → List M
companion_turn o p h at k w =
    cond (is_feeding (kind_at p k)) (slice_set (slice_set w k (conductance o h (kind_at p k) (at k))) (32 + k) (feed o h (kind_at p k) (at k))) w

pub record Worked {M : Type 0} (o : Ops M) (h : M) (s : Sheet M) (r : Option ℕ) (area : List M) : Type 0 where
  pub ok : is_some r ≡ (solving o (step_parts o h s)).ok
  pub unknowns : (n : ℕ) → r ≡ Some n → n ≡ size (step_parts o h s)
  pub left : area ≡ (solving o (step_parts o h s)).left

abbrev pub unsound_at : {M : Type 0} → Ops M → Plan → List M → List M → ℕ → Bool
unsound_at o p currents voltages k = placed p k && not (o.is_sound (slice_index_or currents k o.nought) && o.is_sound (slice_index_or voltages k o.nought))

abbrev pub renewed_at : {M : Type 0} → Ops M → Plan → List M → List M → ℕ → List (Row M) → List (Row M)
renewed_at o p currents voltages k rs =
    cond (placed p k) (slice_set rs k (renewed (row_at o rs k) (slice_index_or currents k o.nought) (slice_index_or voltages k o.nought))) rs

abbrev pub given : {V : Type 0} → Row V → V × V
given r = (r.value, r.start)

abbrev pub Others : {V : Type 0} → Plan → List (Row V) → List (Row V) → Type 0
Others p rows rows' = (k : ℕ) (d : Row _) → placed p k ≡ false → slice_index_or rows' k d ≡ slice_index_or rows k d

abbrev pub settled : {M : Type 0} → Ops M → M → Sheet M → Answer (Sheet M)
settled o h s =
    refuse 14 (not (solving o (step_parts o h s)).ok)
    (refuse 15 (unsound o s.plan (step_result o h s))
    (granted (record { plan = s.plan; rows = renewed_rows o s.plan s.rows (step_result o h s) })))

pub record Settles {V M : Type 0} (o : Ops M) (mean : V → M) (h : M) (plan : Plan) (rows : List (Row V)) (v : Verdict) (rows' : List (Row V)) : Type 0 where
  pub answers : v ≡ verdict_of (settled o h (meant_sheet mean (record { plan = plan; rows = rows })))
  pub tables : map (meant_row mean) rows' ≡ (left (meant_sheet mean (record { plan = plan; rows = rows })) (settled o h (meant_sheet mean (record { plan = plan; rows = rows })))).rows
  pub gives : map given rows' ≡ map given rows
  pub others : Others plan rows rows'
  pub alone : (t : Told) → v ≡ fail t → rows' ≡ rows
