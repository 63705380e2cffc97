-- What the text of a key tells of its card file. Assumes nothing.
--
-- read_in       what the cards leave, in an arithmetic
-- read          the same in binary64
-- plan_of       the plan that is read
-- Ends          the key of a refused circuit is the one line of its refusal, and nothing follows
-- Branchless    the key of a circuit without a branch is `tree` alone
-- figures       the current and the voltage of a branch, as remainders
-- SameFigures   the same at each place
-- Alike         both granted and the same, or both refused in the same words
-- AlikeBy       the same of what cards leave: both faulty in the same words, or alike after one step
-- Tells         the same branches, tree, loops and cuts, the same readings and the same remainders
-- OneKey        what is true of two card files whose keys are one text: both refused, by one number, or they tell the same
use Rattle.std.specs.Prelude.{◌≡◌, ℕ, ◌<◌, ◌≤◌, false, List, [], ◌∷◌, ◌==◌, length, Some, None, Option, codes, decimal, Float}
use Rattle.std.specs.List.{filter}
use Rattle.arithmetic.specs.Binary64.{binary64_ops}
use Rattle.arithmetic.specs.Ops.{Ops}
use Rattle.arithmetic.specs.Residues.{Residue, residue, residue_ops}
use Rattle.cards.specs.Following.{blank_sheet}
use Rattle.cards.specs.Reading.{Named, State, cards_read}
use Rattle.sheet.specs.declared.look.Look.{Look}
use Rattle.sheet.specs.declared.plan.Plan.{Plan}
use Rattle.sheet.specs.declared.refusal.Refusal.{Refusal}
use Rattle.sheet.specs.Calls.{Sheet}
use Rattle.sheet.specs.Looks.{seen}
use Rattle.sheet.specs.Refusals.{Answer, granted, refused, Told, means}
use Rattle.networks.specs.Networks.{placed}
use Rattle.topology.specs.Trees.{tree_of, loop_row_of, cut_row_of}
use Rattle.printed_key.specs.Blocks.{refused_line, fault_line, one_step, readings_after}
use Rattle.printed_key.specs.Key.{circuit_tree, key_text}
use Rattle.printed_key.specs.Text.{Word, line_text}

abbrev pub read_in : {M : Type 0} → Ops M → List ℕ → State M
read_in o input = cards_read o input (blank_sheet o)

abbrev pub read : List ℕ → State Float
read = read_in binary64_ops

abbrev pub plan_of : List ℕ → Plan
plan_of input = (read input).sheet.plan

pub record Ends (input : List ℕ) : Type 0 where
  pub too_long : 4096 < length input → key_text input ≡ codes "refused 25\n"
  pub fault : (f : Named) → length input ≤ 4096 → (read input).fault ≡ Some f → key_text input ≡ line_text (fault_line f)
  pub tree : (t : Told) → length input ≤ 4096 → (read input).fault ≡ None → tree_of (plan_of input) ≡ refused t → key_text input ≡ line_text (refused_line t)
  pub lone : (t : Told) → circuit_tree input ≡ refused t → filter (λ b. b == 10) (key_text input) ≡ 10 ∷ []
  pub number : (t : Told) → circuit_tree input ≡ refused t → (ws : List Word) × (key_text input ≡ line_text (record { name = codes "refused"; words = decimal t.number ∷ ws }))

abbrev pub Branchless : List ℕ → Type 0
Branchless input = (w : ℕ) → circuit_tree input ≡ granted w → ((k : ℕ) → placed (plan_of input) k ≡ false) → key_text input ≡ codes "tree\n"

abbrev pub figures : Option (Look Residue) → Option (ℕ × ℕ)
figures None = None
figures (Some l) = Some (l.current.0, l.voltage.0)

abbrev pub SameFigures : Sheet Residue → Sheet Residue → Type 0
SameFigures s t = (k : ℕ) → k < 32 → figures (seen (residue 0) s.plan s.rows k) ≡ figures (seen (residue 0) t.plan t.rows k)

abbrev pub Alike : {X : Type 0} → (X → X → Type 0) → Answer X → Answer X → Type 0
Alike Same (granted x) (granted y) = Same x y
Alike Same (granted x) (refused u) = ⊥
Alike Same (refused t) (granted y) = ⊥
Alike Same (refused t) (refused u) = refused_line t ≡ refused_line u

abbrev pub AlikeBy : Option Named → Option Named → Sheet Residue → Sheet Residue → Type 0
AlikeBy None None s t = Alike SameFigures (one_step residue_ops s) (one_step residue_ops t)
AlikeBy None (Some f) s t = ⊥
AlikeBy (Some e) None s t = ⊥
AlikeBy (Some e) (Some f) s t = fault_line e ≡ fault_line f

pub record Tells (input other : List ℕ) : Type 0 where
  pub tree : circuit_tree input ≡ circuit_tree other
  pub branches : (k : ℕ) → placed (plan_of input) k ≡ placed (plan_of other) k
  pub loops : (k : ℕ) → k < 32 → loop_row_of (plan_of input) k ≡ loop_row_of (plan_of other) k
  pub cuts : (k : ℕ) → k < 32 → cut_row_of (plan_of input) k ≡ cut_row_of (plan_of other) k
  pub readings : Alike ◌≡◌ (readings_after (read input).sheet) (readings_after (read other).sheet)
  pub remainders : AlikeBy (read_in residue_ops input).fault (read_in residue_ops other).fault (read_in residue_ops input).sheet (read_in residue_ops other).sheet

pub record OneKey (input other : List ℕ) : Type 0 where
  pub refusals : (r q : Refusal) → circuit_tree input ≡ refused (means r) → circuit_tree other ≡ refused (means q) → (means r).number ≡ (means q).number
  pub mixed : (t : Told) (w : ℕ) → circuit_tree input ≡ refused t → circuit_tree other ≡ granted w → ⊥
  pub answers : (v w : ℕ) → circuit_tree input ≡ granted v → circuit_tree other ≡ granted w → Tells input other
