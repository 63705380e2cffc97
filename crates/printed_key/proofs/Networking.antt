-- The lines of a key tell its tree, its loops and its cuts.
use Rattle.std.proofs.Common.{◌≡◌, ◌≢◌, ◌<◌, ℕ, Bool, true, false, cond, not, ◌&&◌, List, [], ◌∷◌, ◌++◌, get_or, Some, None, Option, codes, decimal, sym, refl, ap, ◌∙◌}
use Rattle.std.proofs.lemmas.Bool.{and_from, and_left, and_right}
use Rattle.std.proofs.lemmas.List.{append_cancel_left}
use Rattle.std.specs.List.{filter}
use Rattle.std.specs.Prelude.{ℤ, slice_index_or}
use Rattle.std.specs.Str.{bytes_eq}
use lib.Ieee.{Float}
use Rattle.arithmetic.specs.Residues.{Residue, residue, residue_ops}
use Rattle.cards.specs.Reading.{Named}
use Rattle.sheet.specs.declared.look.Look.{Look}
use Rattle.sheet.specs.declared.plan.Plan.{Plan}
use Rattle.sheet.specs.declared.refusal.Shown.{Shown}
use Rattle.sheet.specs.Calls.{Sheet}
use Rattle.sheet.specs.Looks.{seen}
use Rattle.sheet.specs.Refusals.{Answer, granted, refused, after}
use Rattle.stories.proofs.Granting.{granted_is}
use Rattle.networks.specs.Networks.{placed}
use Rattle.topology.specs.Trees.{tree_of, loop_of, loop_row_of, cut_row_of}
use Rattle.networks.specs.Words.{bits}
use Rattle.topology.proofs.Meaning.{granted_tree}
use Rattle.topology.proofs.Theory.{is_tree}
use Rattle.printed_key.specs.Blocks.{tree_line, row_lines, loop_lines, cut_lines, network_lines, or_refused, reading_line, reading_lines, readings_after, step_lines, remainder_line, remainder_lines, or_fault_by, residue_step_lines, residue_lines, one_step}
use Rattle.printed_key.specs.Key.{key_blocks}
use Rattle.printed_key.specs.Text.{Word, Line, listed}
use Rattle.printed_key.proofs.Picking.{Fails, Passes, fails_more, fails_listed, picked, after_fails, before_fails, listed_same, same_bytes, other_decimal}
use Rattle.printed_key.proofs.Rowing.{same_members, good_loop, good_cut, same_lines, tree_fits}

-- a line of that name, at the place k
pub at : Word → ℕ → Line → Bool
at name k l = bytes_eq l.name name && bytes_eq (get_or l.words 0 []) (decimal k)

pub own_place : (name : Word) (k : ℕ) (ws : List Word) → at name k (record { name = name; words = decimal k ∷ ws }) ≡ true
unfolding at
own_place name k ws = and_from _ _ (same_bytes name) (same_bytes (decimal k))

pub other_place : (name : Word) (k j : ℕ) (ws : List Word) → j < 32 → k < 32 → j ≢ k → at name k (record { name = name; words = decimal j ∷ ws }) ≡ false
unfolding at
other_place name k j ws l m ne = and_right (bytes_eq name name) _ (other_decimal j k l m ne)

pub other_name : (name m : Word) (k : ℕ) (ws : List Word) → bytes_eq name m ≡ false → at m k (record { name = name; words = ws }) ≡ false
unfolding at
other_name name m k ws e = and_left (bytes_eq name m) _ e

module _ (name : Word) where
  row_own : (k : ℕ) (a : Answer (Option Shown)) → Passes (at name k) (row_lines name k a)
  row_own k (granted None) = tt
  row_own k (granted (Some s)) = (own_place name k _, tt)
  row_own k (refused t) = tt

  row_place : (k j : ℕ) (a : Answer (Option Shown)) → j < 32 → k < 32 → j ≢ k → Fails (at name k) (row_lines name j a)
  row_place k j (granted None) l m ne = tt
  row_place k j (granted (Some s)) l m ne = (other_place name k j _ l m ne, tt)
  row_place k j (refused t) l m ne = tt

  row_name : (m : Word) (k j : ℕ) → bytes_eq name m ≡ false → (a : Answer (Option Shown)) → Fails (at m k) (row_lines name j a)
  row_name m k j e (granted None) = tt
  row_name m k j e (granted (Some s)) = (other_name name m k _ e, tt)
  row_name m k j e (refused t) = tt

  rows_picked : (rows : ℕ → Answer (Option Shown)) (k : ℕ) → k < 32 → filter (at name k) (listed (λ j. row_lines name j (rows j)) 32) ≡ row_lines name k (rows k)
  rows_picked rows k l = picked (at name k) (λ j. row_lines name j (rows j)) k 32 l (row_own k (rows k)) (λ j m ne. row_place k j (rows j) m l ne)

  rows_fail : (m : Word) (k : ℕ) → bytes_eq name m ≡ false → (rows : ℕ → Answer (Option Shown)) → Fails (at m k) (listed (λ j. row_lines name j (rows j)) 32)
  rows_fail m k e rows = fails_listed (at m k) _ 32 (λ j l. row_name m k j e (rows j))

-- the blocks of other names
module _ (m : Word) (k : ℕ) (no : bytes_eq (codes "refused") m ≡ false) where
  or_refused_fails : {X : Type 0} (f : X → List Line) (a : Answer X) → ((x : X) → Fails (at m k) (f x)) → Fails (at m k) (or_refused f a)
  or_refused_fails f (granted x) h = h x
  or_refused_fails f (refused t) h = (other_name (codes "refused") m k _ no, tt)

  reading_fails : bytes_eq (codes "mv") m ≡ false → (j : ℕ) (o : Option ℤ) → Fails (at m k) (reading_line j o)
  reading_fails e j None = tt
  reading_fails e j (Some z) = (other_name (codes "mv") m k _ e, tt)

  pub steps_fail : bytes_eq (codes "mv") m ≡ false → (s : Sheet Float) → Fails (at m k) (step_lines s)
  unfolding step_lines
  steps_fail e s = or_refused_fails reading_lines (readings_after s) (λ zs. fails_listed (at m k) _ 32 (λ j l. reading_fails e j (slice_index_or zs j None)))

  remainder_fails : bytes_eq (codes "res") m ≡ false → (j : ℕ) (o : Option (Look Residue)) → Fails (at m k) (remainder_line j o)
  remainder_fails e j None = tt
  remainder_fails e j (Some l) = (other_name (codes "res") m k _ e, tt)

  remainders_fail : bytes_eq (codes "res") m ≡ false → (o : Option Named) (s : Sheet Residue) → Fails (at m k) (or_fault_by residue_step_lines o s)
  remainders_fail e None s = or_refused_fails remainder_lines (one_step residue_ops s) (λ t. fails_listed (at m k) _ 32 (λ j l. remainder_fails e j (seen (residue 0) t.plan t.rows j)))
  remainders_fail e (Some f) s = (other_name (codes "refused") m k _ no, tt)

  pub residues_fail : bytes_eq (codes "res") m ≡ false → (input : List ℕ) → Fails (at m k) (residue_lines input)
  unfolding residue_lines
  residues_fail e input = remainders_fail e _ _

-- the rows of a key
module _ (input : List ℕ) (s : Sheet Float) (w : ℕ) where
  abbrev lines : List Line
  lines = key_blocks input s w

  abbrev loops : List Line
  loops = listed (loop_lines s.plan) 32

  abbrev cuts : List Line
  cuts = listed (cut_lines s.plan) 32

  abbrev rest : List Line
  rest = step_lines s ++ residue_lines input

  rest_fails : (m : Word) (k : ℕ) → bytes_eq (codes "refused") m ≡ false → bytes_eq (codes "mv") m ≡ false → bytes_eq (codes "res") m ≡ false → Fails (at m k) rest
  rest_fails m k e f g = fails_more (at m k) (step_lines s) (residue_lines input) (steps_fail m k e f s) (residues_fail m k e g input)

  loops_picked : (k : ℕ) → k < 32 → filter (at (codes "loop") k) lines ≡ loop_lines s.plan k
  unfolding at
  loops_picked k l =
      let test = at (codes "loop") k in
      before_fails test (loops ++ cuts) rest (rest_fails (codes "loop") k refl refl refl)
      ∙ before_fails test loops cuts (rows_fail (codes "cut") (codes "loop") k refl (cut_row_of s.plan))
      ∙ rows_picked (codes "loop") (loop_row_of s.plan) k l

  cuts_picked : (k : ℕ) → k < 32 → filter (at (codes "cut") k) lines ≡ cut_lines s.plan k
  unfolding at
  cuts_picked k l =
      let test = at (codes "cut") k in
      before_fails test (loops ++ cuts) rest (rest_fails (codes "cut") k refl refl refl)
      ∙ after_fails test loops cuts (rows_fail (codes "loop") (codes "cut") k refl (loop_row_of s.plan))
      ∙ rows_picked (codes "cut") (cut_row_of s.plan) k l

head_words : List Line → List Word
head_words [] = []
head_words (l ∷ ls) = l.words

pub record SameNetwork (input other : List ℕ) (s t : Sheet Float) (v w : ℕ) : Type 0 where
  pub tree : v ≡ w
  pub loops : (k : ℕ) → k < 32 → loop_row_of s.plan k ≡ loop_row_of t.plan k
  pub cuts : (k : ℕ) → k < 32 → cut_row_of s.plan k ≡ cut_row_of t.plan k
  pub rest : step_lines s ++ residue_lines input ≡ step_lines t ++ residue_lines other

pub same_network : (input other : List ℕ) (s t : Sheet Float) (v w : ℕ) → tree_of s.plan ≡ granted v → tree_of t.plan ≡ granted w → key_blocks input s v ≡ key_blocks other t w → SameNetwork input other s t v w
unfolding head_words
same_network input other s t v w a b e =
    let tree : v ≡ w = same_members v w (tree_fits s.plan v a) (tree_fits t.plan w b) (ap head_words e) in
    let loop_at : (k : ℕ) → k < 32 → loop_lines s.plan k ≡ loop_lines t.plan k = λ k l. sym (loops_picked input s v k l) ∙ ap (filter (at (codes "loop") k)) e ∙ loops_picked other t w k l in
    let cut_at : (k : ℕ) → k < 32 → cut_lines s.plan k ≡ cut_lines t.plan k = λ k l. sym (cuts_picked input s v k l) ∙ ap (filter (at (codes "cut") k)) e ∙ cuts_picked other t w k l in
    let network : network_lines s.plan v ≡ network_lines t.plan w =
    ap (λ x. tree_line x ∷ (listed (loop_lines s.plan) 32 ++ listed (cut_lines s.plan) 32)) tree
    ∙ ap (λ x. tree_line w ∷ (x ++ listed (cut_lines s.plan) 32)) (listed_same (loop_lines s.plan) (loop_lines t.plan) 32 loop_at)
    ∙ ap (λ x. tree_line w ∷ (listed (loop_lines t.plan) 32 ++ x)) (listed_same (cut_lines s.plan) (cut_lines t.plan) 32 cut_at) in
    record {
      tree = tree;
      loops = λ k l. same_lines (codes "loop") k _ _ (good_loop s.plan v k a) (good_loop t.plan w k b) (loop_at k l);
      cuts = λ k l. same_lines (codes "cut") k _ _ (good_cut s.plan v k a) (good_cut t.plan w k b) (cut_at k l);
      rest = append_cancel_left (network_lines t.plan w) _ _ (ap (λ x. x ++ (step_lines s ++ residue_lines input)) (sym network) ∙ e);
    }

-- a branch is in the tree or has a loop
some_placed : (b c d : Bool) (x y : Shown) → b ≡ true → c ≡ false → cond (b && not c) (Some x) None ≡ cond (d && not c) (Some y) None → d ≡ true
some_placed b c true x y e f h = refl
some_placed true false false x y e f h = cc
some_placed true true false x y e f h = cc
some_placed false c false x y e f h = cc

loop_granted : (p : Plan) (w k : ℕ) → tree_of p ≡ granted w → loop_row_of p k ≡ granted (loop_of p w k)
unfolding loop_row_of
loop_granted p w k a = ap (λ x. after x (λ tree. granted (loop_of p tree k))) a

placed_by : (p q : Plan) (w k : ℕ) (b : Bool) → bits w k ≡ b → tree_of q ≡ granted w → loop_of p w k ≡ loop_of q w k → placed p k ≡ true → placed q k ≡ true
placed_by p q w k true e b same h = (is_tree q).placed k (sym (ap (λ S. S k) (granted_tree q w b).0) ∙ e)
placed_by p q w k false e b same h = some_placed (placed p k) (bits w k) (placed q k) _ _ h e same

pub same_placed : (p q : Plan) (w : ℕ) → tree_of p ≡ granted w → tree_of q ≡ granted w → (k : ℕ) → loop_row_of p k ≡ loop_row_of q k → placed p k ≡ true → placed q k ≡ true
same_placed p q w a b k e h =
    placed_by p q w k (bits w k) refl b (granted_is _ _ (sym (loop_granted p w k a) ∙ e ∙ loop_granted q w k b)) h
