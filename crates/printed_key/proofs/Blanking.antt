-- The key of a circuit without a branch, computed.
use Rattle.std.proofs.Common.{◌≡◌, ℕ, true, false, not, List, [], ◌∷◌, ◌++◌, None, replicate, codes, sym, refl, ap, ◌∙◌, arith}
use native.Mathlib.Decide.{dec_lt, ℕ_discrete}
use lib.Ieee.{eq}
use Rattle.std.specs.Float.{float_is_finite}
use Rattle.std.proofs.lemmas.Bool.{le-ltb, and_from}
use Rattle.arithmetic.specs.Binary64.{binary64_ops}
use Rattle.arithmetic.specs.Ops.{Ops, may_divide}
use Rattle.arithmetic.specs.Residues.{residue_ops}
use Rattle.cards.specs.Following.{blank_sheet}
use Rattle.graphs.specs.Graph.{count}
use Rattle.graphs.specs.Labels.{merge, label}
use Rattle.graphs.specs.Cuts.{cut_row, loop_row}
use Rattle.graphs.specs.Greedy.{kept, members, in_order}
use Rattle.linear.specs.Loops.{steps, down, first, tries}
use Rattle.sheet.specs.Calls.{drawn}
use Rattle.sheet.specs.Plans.{empty_plan}
use Rattle.sheet.specs.Refusals.{granted, after}
use Rattle.stories.specs.Networks.{kind_at, any}
use Rattle.stories.specs.Assembly.{through, entry_of, fed, levelled, right_of, blank_area, with_companions, with_row, assembled}
use Rattle.stories.specs.Steps.{row_at, parts_of, solving, voltage_of, flow_of, current_of, renewed_rows, unsound}
use Rattle.stories.proofs.Granting.{chain, granted_is}
use Rattle.networks.specs.Networks.{graph_of, placed, class_at}
use Rattle.topology.specs.Rows.{cut_from}
use Rattle.topology.specs.Trees.{tree_set, voltage_loop, current_cut, tree_of, loop_row_of, cut_row_of}
use Rattle.networks.specs.Words.{bits, those, first_from}
use Rattle.printed_key.specs.Blocks.{network_lines, tree_line, readings_below, reading_lines, or_refused, or_fault, one_step, step_lines, remainder_lines, residue_step_lines, residue_lines}
use Rattle.printed_key.specs.Key.{key_blocks}
use Rattle.printed_key.specs.Telling.{read_in, Branchless}
use Rattle.printed_key.specs.Text.{spaced, line_text, text_of, listed}
use Rattle.printed_key.proofs.Emptying.{blank_read, no_cards}
use Rattle.printed_key.proofs.Refusing.{granted_tree_of, granted_read, granted_blocks}

-- what the tree and the rows of a plan compute by
trees : Unit {0}
unfolding drawn dec_lt ℕ_discrete graph_of placed class_at members in_order merge label kept cut_row loop_row cut_from tree_set bits those first_from voltage_loop current_cut tree_of loop_row_of cut_row_of
trees = tt

-- and a step
steppings : Unit {0}
unfolding trees kind_at any count steps down first tries through entry_of fed levelled right_of blank_area with_companions with_row assembled row_at parts_of solving voltage_of flow_of current_of renewed_rows unsound
steppings = tt

blank_step : {M : Type 0} (o : Ops M) → o.is_sound o.one ≡ true → may_divide o o.one ≡ true → one_step o (blank_sheet o) ≡ granted (blank_sheet o)
unfolding steppings
blank_step o sound divide = λ i.
    chain (le-ltb 304 304 (omega arith) i) (ap not (and_from (o.is_sound o.one) (may_divide o o.one) sound divide) i) (granted 0) false false (blank_sheet o)

blank_tree : tree_of empty_plan ≡ granted 0
unfolding trees
blank_tree = refl

blank_network : network_lines empty_plan 0 ≡ tree_line 0 ∷ []
unfolding trees listed
blank_network = refl

blank_readings : readings_below empty_plan (blank_sheet binary64_ops).rows 32 ≡ granted (replicate 32 None)
unfolding trees readings_below
blank_readings = refl

no_readings : reading_lines (replicate 32 None) ≡ []
unfolding listed
no_readings = refl

one_step_sound : (binary64_ops.is_sound binary64_ops.one ≡ true) × (may_divide binary64_ops binary64_ops.one ≡ true)
unfolding float_is_finite eq
one_step_sound = (refl, refl)

blank_steps : step_lines (blank_sheet binary64_ops) ≡ []
unfolding step_lines
blank_steps =
    ap (λ a. or_refused reading_lines (after a (λ t. readings_below t.plan t.rows 32))) (blank_step binary64_ops one_step_sound.0 one_step_sound.1)
    ∙ ap (or_refused reading_lines) blank_readings ∙ no_readings

no_remainders : remainder_lines (blank_sheet residue_ops) ≡ []
unfolding listed
no_remainders = refl

blank_residues : (input : List ℕ) → read_in residue_ops input ≡ blank_read residue_ops → residue_lines input ≡ []
unfolding residue_lines
blank_residues input e =
    ap (or_fault residue_step_lines) e ∙ ap (or_refused remainder_lines) (blank_step residue_ops refl refl) ∙ no_remainders

tree_text : text_of (tree_line 0 ∷ []) ≡ codes "tree\n"
unfolding text_of line_text spaced listed trees
tree_text = refl

pub blank_key : (input : List ℕ) → Branchless input
blank_key input w e h =
    let b = no_cards binary64_ops binary64_ops input (granted_read input w e) h in
    let r = no_cards binary64_ops residue_ops input (granted_read input w e) h in
    let tree : w ≡ 0 = granted_is w 0 (sym (granted_tree_of input w e) ∙ ap (λ st. tree_of st.sheet.plan) b ∙ blank_tree) in
    ap text_of
    (granted_blocks input w e
    ∙ ap (λ st. key_blocks input st.sheet w) b
    ∙ ap (key_blocks input (blank_sheet binary64_ops)) tree
    ∙ ap (λ ls. ls ++ (step_lines (blank_sheet binary64_ops) ++ residue_lines input)) blank_network
    ∙ ap (λ ls. tree_line 0 ∷ (ls ++ residue_lines input)) blank_steps
    ∙ ap (λ ls. tree_line 0 ∷ ls) (blank_residues input r))
    ∙ tree_text
