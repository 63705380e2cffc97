-- What the text of a key tells.
use Rattle.std.proofs.Common.{◌≡◌, ℕ, Bool, true, false, List, Some, None, Option, sym, refl, ap, ◌∙◌, arith}
use Rattle.std.specs.Cmp.{both_ways}
use Rattle.arithmetic.specs.Binary64.{binary64_ops}
use Rattle.arithmetic.specs.Residues.{residue_ops}
use Rattle.graphs.specs.Graph.{Set, Below}
use Rattle.sheet.specs.Refusals.{granted}
use Rattle.networks.specs.Networks.{placed}
use Rattle.networks.specs.Words.{first}
use Rattle.networks.proofs.Firsts.{first_member, first-none}
use Rattle.networks.proofs.Networks.{placed_below}
use Rattle.printed_key.specs.Blocks.{readings_after}
use Rattle.printed_key.specs.Key.{circuit_tree, key_blocks, key_text}
use Rattle.printed_key.specs.Telling.{read, read_in, plan_of, Alike, AlikeBy, Tells, OneKey}
use Rattle.printed_key.specs.Text.{text_of}
use Rattle.printed_key.proofs.Emptying.{no_cards}
use Rattle.printed_key.proofs.Figuring.{alike_steps, alike_residues, alike_same, alike_states}
use Rattle.printed_key.proofs.Lines.{lines_told}
use Rattle.printed_key.proofs.Networking.{same_network, same_placed}
use Rattle.printed_key.proofs.Refusing.{granted_tree_of, granted_read, granted_blocks, text_apart, same_number}
use Rattle.printed_key.proofs.Wording.{blocks_bare}

-- a set has a member or none
some_or_none : {X : Type 0} (S : Set) → Below 32 S → ((k : ℕ) → S k ≡ true → X) → (((k : ℕ) → S k ≡ false) → X) → X
some_or_none {X = X} S below f g = go (first S) refl
  where
    none : first S ≡ None → (k : ℕ) → S k ≡ false
    none e k = no (S k) refl
      where
        no : (b : Bool) → S k ≡ b → S k ≡ false
        no true m = first-none S 0 32 k e (omega arith) (omega (arith, below k m))
        no false m = m

    go : (o : Option ℕ) → first S ≡ o → X
    go (Some k) e = f k (first_member S 0 32 k e).0
    go None e = g (none e)

module _ (input other : List ℕ) (v w : ℕ) (e : circuit_tree input ≡ granted v) (f : circuit_tree other ≡ granted w) where
  same_blocks : key_text input ≡ key_text other → key_blocks input (read input).sheet v ≡ key_blocks other (read other).sheet w
  same_blocks same =
      lines_told _ _ (blocks_bare input (read input).sheet v) (blocks_bare other (read other).sheet w)
      (sym (ap text_of (granted_blocks input v e)) ∙ same ∙ ap text_of (granted_blocks other w f))

  abbrev Figured : Type 0
  Figured =
      Alike ◌≡◌ (readings_after (read input).sheet) (readings_after (read other).sheet)
      × AlikeBy (read_in residue_ops input).fault (read_in residue_ops other).fault (read_in residue_ops input).sheet (read_in residue_ops other).sheet

  -- where there is no branch there is no card
  no_figures : ((k : ℕ) → placed (plan_of input) k ≡ false) → ((k : ℕ) → placed (plan_of other) k ≡ false) → Figured
  no_figures h i =
      let a = no_cards binary64_ops binary64_ops input (granted_read input v e) h ∙ sym (no_cards binary64_ops binary64_ops other (granted_read other w f) i) in
      let b = no_cards binary64_ops residue_ops input (granted_read input v e) h ∙ sym (no_cards binary64_ops residue_ops other (granted_read other w f) i) in
      (alike_same _ _ (ap (λ st. readings_after st.sheet) a), alike_states _ _ b)

  tells : key_text input ≡ key_text other → Tells input other
  tells same =
      let a = granted_tree_of input v e in
      let b = granted_tree_of other w f in
      let n = same_network input other (read input).sheet (read other).sheet v w a b (same_blocks same) in
      let back : (k : ℕ) → placed (plan_of other) k ≡ true → placed (plan_of input) k ≡ true = λ k h.
      same_placed (plan_of other) (plan_of input) w b (a ∙ ap granted n.tree) k (sym (n.loops k (placed_below (plan_of other) k h))) h in
      let there : (k : ℕ) → placed (plan_of input) k ≡ true → placed (plan_of other) k ≡ true = λ k h.
      same_placed (plan_of input) (plan_of other) w (a ∙ ap granted n.tree) b k (n.loops k (placed_below (plan_of input) k h)) h in
      let branches : (k : ℕ) → placed (plan_of input) k ≡ placed (plan_of other) k = λ k. both_ways (placed (plan_of input) k) (placed (plan_of other) k) (there k) (back k) in
      let some : (k : ℕ) → placed (plan_of input) k ≡ true → Figured = λ k h.
      let r = alike_steps input other (read input).sheet (read other).sheet k (placed_below (plan_of input) k h) h (there k h) n.rest in
      (r.0, alike_residues input other r.1) in
      let none : ((k : ℕ) → placed (plan_of input) k ≡ false) → Figured = λ h. no_figures h (λ k. sym (branches k) ∙ h k) in
      let figured : Figured = some_or_none (placed (plan_of input)) (placed_below (plan_of input)) some none in
      record { tree = e ∙ ap granted n.tree ∙ sym f; branches = branches; loops = n.loops; cuts = n.cuts; readings = figured.0; remainders = figured.1 }

pub one_key : (input other : List ℕ) → key_text input ≡ key_text other → OneKey input other
one_key input other same = record {
  refusals = λ r q e f. same_number input other r q e f same;
  mixed = λ t w e f. text_apart input other t w e f same;
  answers = λ v w e f. tells input other v w e f same;
}
