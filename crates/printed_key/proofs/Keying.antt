-- The lines of a key, and the tree of its circuit, by the length of the input and by what its cards leave.
use Rattle.std.proofs.Common.{◌≡◌, ◌<◌, ◌≤◌, ℕ, cond, List, [], ◌∷◌, length, Some, None, sym, ap, ◌∙◌, le-ltb, lt-ltb}
use lib.Ieee.{Float}
use Rattle.arithmetic.specs.Binary64.{binary64_ops}
use Rattle.cards.specs.declared.fault.Fault.{Fault}
use Rattle.cards.specs.Following.{blank_sheet}
use Rattle.cards.specs.Reading.{State, named, cards_read}
use Rattle.sheet.specs.Meanings.{meant_sheet}
use Rattle.sheet.specs.Refusals.{refused, refuse, means}
use Rattle.topology.specs.Trees.{tree_of}
use Rattle.printed_key.specs.declared.card_sheet.CardSheet.{CardSheet}
use Rattle.printed_key.specs.Blocks.{refused_line, fault_line, or_fault, or_fault_by}
use Rattle.printed_key.specs.Key.{Blocks, circuit_lines, lines_by, tree_by, tree_of_read, circuit_tree}
use Rattle.printed_key.specs.Text.{Line}
use Rattle.printed_key.proofs.Stepping.{float_state}

abbrev pub too_long : List Line
too_long = refused_line (record { number = 25; words = [] }) ∷ []

-- what the sheet of a card file says: a float is its own meaning
abbrev pub SheetRead : List ℕ → CardSheet Float → Type 0
SheetRead input s = ◌≡◌ {A = State Float} (record { fault = None; sheet = meant_sheet (λ x. x) (record { plan = s.plan; rows = s.rows }) }) (cards_read binary64_ops input (blank_sheet binary64_ops))

plainly : (input : List ℕ) (s : CardSheet Float) → SheetRead input s → ◌≡◌ {A = State Float} (record { fault = None; sheet = record { plan = s.plan; rows = s.rows } }) (cards_read binary64_ops input (blank_sheet binary64_ops))
plainly input s e = sym (float_state _ _ _) ∙ e

module _ (blocks : Blocks) (input : List ℕ) where
  abbrev state : State Float
  state = cards_read binary64_ops input (blank_sheet binary64_ops)

  abbrev lines : List Line
  lines = or_fault (circuit_lines blocks) state

  pub long_lines : 4096 < length input → lines_by blocks input ≡ too_long
  unfolding lines_by
  long_lines h = ap (λ b. cond b too_long lines) (lt-ltb 4096 (length input) h)

  short_lines : length input ≤ 4096 → lines_by blocks input ≡ lines
  unfolding lines_by
  short_lines h = ap (λ b. cond b too_long lines) (le-ltb 4096 (length input) h)

  pub faulty_lines : length input ≤ 4096 → (f : Fault) → Some (named f) ≡ state.fault → lines_by blocks input ≡ fault_line (named f) ∷ []
  faulty_lines h f e = short_lines h ∙ sym (ap (λ o. or_fault_by (circuit_lines blocks) o state.sheet) e)

  pub read_lines : length input ≤ 4096 → (s : CardSheet Float) → SheetRead input s → lines_by blocks input ≡ circuit_lines blocks (record { plan = s.plan; rows = s.rows })
  read_lines h s e = short_lines h ∙ sym (ap (or_fault (circuit_lines blocks)) (plainly input s e))

module _ (input : List ℕ) where
  abbrev left : State Float
  left = cards_read binary64_ops input (blank_sheet binary64_ops)

  pub long_tree : 4096 < length input → circuit_tree input ≡ refused (record { number = 25; words = [] })
  unfolding circuit_tree
  long_tree h = ap (λ b. refuse 25 b (tree_of_read left)) (lt-ltb 4096 (length input) h)

  short_tree : length input ≤ 4096 → circuit_tree input ≡ tree_of_read left
  unfolding circuit_tree
  short_tree h = ap (λ b. refuse 25 b (tree_of_read left)) (le-ltb 4096 (length input) h)

  pub faulty_tree : length input ≤ 4096 → (f : Fault) → Some (named f) ≡ left.fault → circuit_tree input ≡ refused (means f.refusal)
  faulty_tree h f e = short_tree h ∙ sym (ap (λ o. tree_by o left.sheet.plan) e)

  pub read_tree : length input ≤ 4096 → (s : CardSheet Float) → SheetRead input s → circuit_tree input ≡ tree_of s.plan
  read_tree h s e = short_tree h ∙ sym (ap tree_of_read (plainly input s e))
