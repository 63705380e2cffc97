-- The known results, computed. Assumes nothing.
use Rattle.std.proofs.Common.{◌≡◌, ℕ, ◌<◌, ◌≤◌, Bool, true, false, not, eqb, ltb, List, length, get_or, Ok, Err, Result, refl, ap, ◌∙◌, MatchResult}
use native.Mathlib.Decide.{dec_lt, ℕ_discrete}
use lib.Ieee.{mul}
use Rattle.std.proofs.lemmas.Bool.{le-ltb, and_from, eqb-true, not-false}
use Rattle.inverses.specs.Inverse.{inverse_of}
use Rattle.arithmetic.specs.Ops.{Ops, may_divide}
use Rattle.sheet.specs.declared.plan.Plan.{Plan}
use Rattle.sheet.specs.declared.refusal.Refusal.{Refusal}
use Rattle.sheet.specs.Calls.{drawn}
use Rattle.sheet.specs.Refusals.{granted, told, refuse, after}
use Rattle.graphs.specs.Graph.{count}
use Rattle.graphs.specs.Labels.{merge, label}
use Rattle.graphs.specs.Cuts.{cut_row, loop_row}
use Rattle.graphs.specs.Greedy.{kept, members, in_order}
use Rattle.networks.specs.Networks.{graph_of, placed, class_at}
use Rattle.topology.specs.Rows.{cut_from}
use Rattle.topology.specs.Trees.{tree_set, voltage_loop, current_cut, tree_of, loop_row_of, cut_row_of}
use Rattle.networks.specs.Words.{bits, those, first_from}
use Rattle.slips.specs.Bits.{high, low, word_at, byte_at}
use Rattle.slips.specs.Entries.{are_entries, entries_bits, entries_of}
use Rattle.slips.specs.Slips.{Slip, row_bits, rows_bits, slip_bits}
use Rattle.slips.specs.Writing.{blanked, rows_answer, slip_answer, ReadsBack}
use Rattle.plan_slips.specs.Own.{own_rows, OwnSlip}
use Rattle.linear.specs.Loops.{steps, down, first, tries}
use Rattle.stories.specs.Networks.{kind_at, any}
use Rattle.stories.specs.Assembly.{through, entry_of, fed, levelled, right_of, blank_area, with_companions, with_row, assembled}
use Rattle.stories.specs.Steps.{row_at, parts_of, solving, voltage_of, flow_of, current_of, renewed_rows, unsound, stepped}
use Rattle.stories.specs.Stories.{run, blank_sheet}
use Rattle.stories.proofs.Granting.{never, chain}
use Rattle.stories.proofs.Networks.{any_none}
use Rattle.figures.specs.Readings.{reading_of}
use Rattle.known_results.specs.Table.{placing, circuit, SlipIs, figures, low_pass, two_voltages, two_currents, opposed, bridge, KnownResults}

-- what the circuits and their trees, loop rows and cut rows compute by
trees : Unit {0}
unfolding low_pass two_voltages two_currents opposed bridge circuit placing run drawn dec_lt ℕ_discrete graph_of placed class_at members in_order merge label kept cut_row loop_row cut_from tree_set bits those first_from voltage_loop current_cut tree_of loop_row_of cut_row_of
trees = tt

-- and their steps
steppings : Unit {0}
unfolding trees kind_at any count steps down first tries through entry_of fed levelled right_of blank_area with_companions with_row assembled row_at parts_of solving voltage_of flow_of current_of renewed_rows unsound figures inverse_of
steppings = tt

-- and their slips
slips : Unit {0}
unfolding trees own_rows entries_of are_entries entries_bits row_bits rows_bits slip_bits high low word_at rows_answer any
slips = tt

blank_step : {M : Type 0} (o : Ops M) (h : M) (area : ℕ) → o.is_sound h ≡ true → may_divide o h ≡ true → 304 ≤ area → stepped o 32 area h (blank_sheet o) ≡ granted (blank_sheet o)
unfolding steppings
blank_step o h area sound divide room = λ i.
    chain (le-ltb area 304 room i) (ap not (and_from (o.is_sound h) (may_divide o h) sound divide) i) (granted 0) false false (blank_sheet o)

-- some byte of packed bits is not that of the list
differs : List ℕ → List ℕ → Bool
differs bits bytes = any (λ k. not (eqb (byte_at bits k) (get_or bytes k 0))) 280

-- a slip from its tree, its answer in a long area and its bytes
module _ (p : Plan) (w : ℕ) (bytes : List ℕ) where
  abbrev own : Slip
  own = record { tree = w; rows = own_rows p w 32 }

  slip_is : tree_of p ≡ granted w → ((n : ℕ) → ltb n 280 ≡ false → slip_answer n own.rows ≡ granted (length bytes)) → differs (slip_bits own) bytes ≡ false → SlipIs p bytes
  unfolding differs
  slip_is tree answer same = record { answers = answers; leaves = λ before after r slip room. go before after r (answers before after r slip room) (slip.writes w tree) }
    where
      answers : (before after : List ℕ) (r : Result ℕ Refusal) → OwnSlip p before after r → 280 ≤ length before → told r ≡ granted (length bytes)
      answers before after r slip room = slip.answers w tree ∙ answer (length before) (le-ltb (length before) 280 room)

      go : (before after : List ℕ) (r : Result ℕ Refusal) → told r ≡ granted (length bytes) → MatchResult r (ReadsBack own after) (λ _. after ≡ blanked before) → (k : ℕ) → k < 280 → get_or after k 0 ≡ get_or bytes k 0
      go before after (Ok n) e c k h = c.packed k h ∙ eqb-true _ _ (not-false _ (any_none _ 280 same k h))
      go before after (Err t) e c k h = never _ _ e

pub known : {M : Type 0} (o : Ops M) → KnownResults o
unfolding steppings slips differs reading_of mul
known o = record {
  low_pass_tree = refl;
  low_pass_cut_0 = refl;
  low_pass_cut_2 = refl;
  low_pass_loop_1 = refl;
  low_pass_slip = slip_is low_pass.plan 5 _ refl (λ n e i. after (after (refuse 17 (e i) (granted tt)) (λ _. granted tt)) (λ _. refuse 17 (e i) (granted 13))) refl;
  low_pass_step = refl;
  two_voltages_lem = refl;
  two_currents_lem = refl;
  opposed-step = refl;
  bridge_tree = refl;
  bridge_loop_1 = refl;
  bridge_loop_4 = refl;
  blank_step = blank_step o;
  inverses = refl;
  reading = refl;
  reading_below = refl;
}
