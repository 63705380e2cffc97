-- The printed keys of a card file. Assumes nothing.
--
-- Blocks           the lines on a sheet and its tree
-- circuit_lines    those of a sheet that was read, or the refusal of its tree
-- lines_by         of a card file: 25 for more than 4,096 bytes, a fault of the cards, or the circuit's lines
-- lines_read       of a circuit that was read with its tree, or of what stood in its way
-- tree_by          the tree of a plan, or the refusal of the fault
-- tree_of_read     the tree of a sheet that was read, or the refusal that stands in its way
-- circuit_tree     of a card file: 25 for more than 4,096 bytes, the refusal of a fault, or the answer of the circuit's tree
-- tree_read        of a circuit that was read with its tree, or of what stood in its way
-- network_blocks   the tree, loops and cuts alone
-- key_blocks       the tree, loops and cuts, the readings, and the remainders of these cards
-- key_lines        the lines of a whole key
-- network_text     the bytes of the tree, loops and cuts, or of what stands in their place
-- key_text         the bytes of a whole key
use Rattle.std.specs.Prelude.{ℕ, cond, List, [], ◌∷◌, ◌++◌, length, nat_lt, Some, None, Ok, Err, Option, Result, Float}
use Rattle.arithmetic.specs.Binary64.{binary64_ops}
use Rattle.cards.specs.Following.{blank_sheet}
use Rattle.cards.specs.Reading.{Named, State, cards_read}
use Rattle.sheet.specs.declared.plan.Plan.{Plan}
use Rattle.sheet.specs.Calls.{Sheet}
use Rattle.sheet.specs.Refusals.{Answer, granted, refused, refuse, means}
use Rattle.topology.specs.Trees.{tree_of}
use Rattle.printed_key.specs.declared.circuit.Circuit.{Circuit}
use Rattle.printed_key.specs.declared.stop.Stop.{Stop}
use Rattle.printed_key.specs.Blocks.{network_lines, refusal_of, refused_line, stop_line, or_refused, or_fault, step_lines, residue_lines}
use Rattle.printed_key.specs.Text.{Line, text_of}

abbrev pub Blocks : Type 0
Blocks = Sheet Float → ℕ → List Line

abbrev pub circuit_lines : Blocks → Sheet Float → List Line
circuit_lines blocks s = or_refused (blocks s) (tree_of s.plan)

unfoldable pub lines_by : Blocks → List ℕ → List Line
lines_by blocks input =
    cond (nat_lt 4096 (length input))
    (refused_line (record { number = 25; words = [] }) ∷ [])
    (or_fault (circuit_lines blocks) (cards_read binary64_ops input (blank_sheet binary64_ops)))

abbrev pub lines_read : Blocks → Result Circuit Stop → List Line
lines_read blocks (Ok c) = blocks (record { plan = c.sheet.plan; rows = c.sheet.rows }) c.tree
lines_read blocks (Err stop) = stop_line stop ∷ []

abbrev pub tree_by : Option Named → Plan → Answer ℕ
tree_by None p = tree_of p
tree_by (Some f) p = refused f.told

abbrev pub tree_of_read : State Float → Answer ℕ
tree_of_read st = tree_by st.fault st.sheet.plan

unfoldable pub circuit_tree : List ℕ → Answer ℕ
circuit_tree input = refuse 25 (nat_lt 4096 (length input)) (tree_of_read (cards_read binary64_ops input (blank_sheet binary64_ops)))

abbrev pub tree_read : Result Circuit Stop → Answer ℕ
tree_read (Ok c) = granted c.tree
tree_read (Err stop) = refused (means (refusal_of stop))

abbrev pub network_blocks : Blocks
network_blocks s w = network_lines s.plan w

abbrev pub key_blocks : List ℕ → Blocks
key_blocks input s w = network_lines s.plan w ++ (step_lines s ++ residue_lines input)

abbrev pub key_lines : List ℕ → List Line
key_lines input = lines_by (key_blocks input) input

abbrev pub network_text : List ℕ → List ℕ
network_text input = text_of (lines_by network_blocks input)

abbrev pub key_text : List ℕ → List ℕ
key_text input = text_of (key_lines input)
