-- The words of a key's lines are bare.
use Rattle.std.proofs.Common.{◌≡◌, ℕ, ◌<◌, Bool, true, false, cond, ltb, List, [], ◌∷◌, ◌++◌, Some, None, Option, codes, refl, ltb-true, arith}
use lib.Ieee.{Float}
use Rattle.arithmetic.specs.Residues.{Residue, residue, residue_ops}
use Rattle.cards.specs.Reading.{Named}
use Rattle.sheet.specs.declared.plan.Plan.{Plan}
use Rattle.sheet.specs.declared.look.Look.{Look}
use Rattle.sheet.specs.declared.refusal.Shown.{Shown}
use Rattle.sheet.specs.Calls.{Sheet}
use Rattle.sheet.specs.Looks.{seen}
use Rattle.sheet.specs.Refusals.{Answer, granted, refused, Told}
use Rattle.std.specs.Prelude.{ℤ, slice_index_or}
use Rattle.topology.specs.Trees.{loop_row_of, cut_row_of}
use Rattle.networks.specs.Words.{bits}
use Rattle.printed_key.specs.Blocks.{member_words, sided, signed_words, tree_line, row_lines, network_lines, shown_words, refused_line, fault_line, or_refused, reading_line, reading_lines, readings_after, step_lines, remainder_line, remainder_lines, or_fault_by, residue_step_lines, residue_lines, one_step}
use Rattle.printed_key.specs.Text.{Word, Line, listed}
use Rattle.printed_key.proofs.Lines.{Bare, Words, LineBare, Lines, decimal_bare, signed_bare, lines_more, listed_words, listed_lines}

all_above : Word → Bool
all_above [] = true
all_above (b ∷ bs) = cond (ltb 32 b) (all_above bs) false

above : (w : Word) → all_above w ≡ true → Bare w
unfolding all_above
above [] e = tt
above (b ∷ bs) e = go (ltb 32 b) refl e (above bs)
  where
    go : (c : Bool) → ltb 32 b ≡ c → cond c (all_above bs) false ≡ true → (all_above bs ≡ true → Bare bs) → (32 < b) × Bare bs
    go true f h rest = (ltb-true 32 b f, rest h)
    go false f h rest = cc

word_if : (b : Bool) (w : Word) → Bare w → Words (cond b (w ∷ []) [])
word_if true w h = (h, tt)
word_if false w h = tt

sided_bare : (b : Bool) (k : ℕ) → Bare (sided b k)
sided_bare true k = (omega arith, decimal_bare k)
sided_bare false k = (omega arith, decimal_bare k)

signed_bare_words : (s : Shown) → Words (listed (signed_words s) 32)
signed_bare_words s = listed_words (signed_words s) 32 (λ k. word_if (bits s.members k) (sided (bits s.against k) k) (sided_bare (bits s.against k) k))

tree_bare : (w : ℕ) → LineBare (tree_line w)
unfolding all_above
tree_bare w = record { name = above (codes "tree") refl; words = listed_words (member_words w) 32 (λ k. word_if (bits w k) _ (decimal_bare _)) }

rows_bare : (name : Word) → all_above name ≡ true → (k : ℕ) (a : Answer (Option Shown)) → Lines (row_lines name k a)
rows_bare name h k (granted None) = tt
rows_bare name h k (granted (Some s)) = (record { name = above name h; words = (decimal_bare k, signed_bare_words s) }, tt)
rows_bare name h k (refused t) = tt

network_bare : (p : Plan) (w : ℕ) → Lines (network_lines p w)
unfolding all_above
network_bare p w = (
  tree_bare w,
  lines_more _ _
      (listed_lines _ 32 (λ k. rows_bare _ refl k (loop_row_of p k)))
      (listed_lines _ 32 (λ k. rows_bare _ refl k (cut_row_of p k))),
)

shown_bare : (ws : List ℕ) → Words (shown_words ws)
shown_bare [] = tt
shown_bare (m ∷ []) = tt
shown_bare (m ∷ a ∷ ws) = signed_bare_words (record { members = m; against = a })

pub refused_bare : (t : Told) → LineBare (refused_line t)
unfolding all_above
refused_bare t = record { name = above (refused_line t).name refl; words = (decimal_bare _, shown_bare t.words) }

pub fault_bare : (f : Named) → LineBare (fault_line f)
unfolding all_above
fault_bare f = record {
  name = above (codes "refused") refl;
  words = (decimal_bare f.told.number, (above (codes "line") refl, (decimal_bare f.line, (above (codes "byte") refl, (decimal_bare f.byte, tt)))));
}

or_refused_bare : {X : Type 0} (f : X → List Line) (a : Answer X) → ((x : X) → Lines (f x)) → Lines (or_refused f a)
or_refused_bare f (granted x) h = h x
or_refused_bare f (refused t) h = (refused_bare t, tt)

reading_bare : (k : ℕ) (o : Option ℤ) → Lines (reading_line k o)
unfolding all_above
reading_bare k None = tt
reading_bare k (Some z) = (record { name = above (codes "mv") refl; words = search (decimal_bare, signed_bare) }, tt)

steps_bare : (s : Sheet Float) → Lines (step_lines s)
unfolding step_lines
steps_bare s = or_refused_bare reading_lines (readings_after s) (λ zs. listed_lines _ 32 (λ k. reading_bare k (slice_index_or zs k None)))

remainder_bare : (k : ℕ) (o : Option (Look Residue)) → Lines (remainder_line k o)
unfolding all_above
remainder_bare k None = tt
remainder_bare k (Some l) = (record { name = above (codes "res") refl; words = (decimal_bare _, (decimal_bare _, (decimal_bare _, tt))) }, tt)

remainders_bare : (o : Option Named) (s : Sheet Residue) → Lines (or_fault_by residue_step_lines o s)
remainders_bare None s = or_refused_bare remainder_lines (one_step residue_ops s) (λ t. listed_lines _ 32 (λ k. remainder_bare k (seen (residue 0) t.plan t.rows k)))
remainders_bare (Some f) s = (fault_bare f, tt)

residues_bare : (input : List ℕ) → Lines (residue_lines input)
unfolding residue_lines
residues_bare input = remainders_bare _ _

pub blocks_bare : (input : List ℕ) (s : Sheet Float) (w : ℕ) → Lines (network_lines s.plan w ++ (step_lines s ++ residue_lines input))
blocks_bare input s w = lines_more (network_lines s.plan w) _ (network_bare s.plan w) (lines_more (step_lines s) _ (steps_bare s) (residues_bare input))
