-- The words of a tree, a loop or a cut tell its members and their signs.
use Rattle.std.proofs.Common.{◌≡◌, ◌≢◌, ◌<◌, ◌^◌, ℕ, Bool, true, false, cond, not, ◌&&◌, List, [], ◌∷◌, get_or, drop, Some, None, Option, decimal, sym, refl, ap, ◌∙◌, subst, arith}
use Rattle.std.specs.List.{filter}
use Rattle.std.specs.Str.{bytes_eq}
use Rattle.graphs.specs.Cuts.{cut_row, loop_row}
use Rattle.graphs.specs.Graph.{Sign, plus, none, minus}
use Rattle.sheet.specs.declared.plan.Plan.{Plan}
use Rattle.sheet.specs.declared.refusal.Shown.{Shown}
use Rattle.sheet.specs.Refusals.{Answer, granted, refused, after}
use Rattle.stories.proofs.Granting.{granted_is}
use Rattle.networks.specs.Networks.{graph_of, placed}
use Rattle.topology.specs.Rows.{marks, backs, shown}
use Rattle.topology.specs.Trees.{tree_set, tree_of, loop_of, cut_of, loop_row_of, cut_row_of}
use Rattle.networks.specs.Words.{bits, word}
use Rattle.networks.proofs.Bits.{those_less, bits-those, those_cong, those-bits}
use Rattle.topology.proofs.Meaning.{granted_tree, proper_granted}
use Rattle.printed_key.specs.Blocks.{member_words, sided, signed_words, row_lines}
use Rattle.printed_key.specs.Text.{Word, Line, listed}
use Rattle.printed_key.proofs.Picking.{Fails, Passes, picked, same_bytes, other_decimal}

-- members
bare_number : ℕ → Word → Bool
bare_number k w = bytes_eq w (decimal k)

member_passes : (k : ℕ) (b : Bool) → Passes (bare_number k) (cond b (decimal k ∷ []) [])
unfolding bare_number
member_passes k true = (same_bytes (decimal k), tt)
member_passes k false = tt

member_fails : (k j : ℕ) (b : Bool) → j < 32 → k < 32 → j ≢ k → Fails (bare_number k) (cond b (decimal j ∷ []) [])
unfolding bare_number
member_fails k j true l m ne = (other_decimal j k l m ne, tt)
member_fails k j false l m ne = tt

members_picked : (w k : ℕ) → k < 32 → filter (bare_number k) (listed (member_words w) 32) ≡ member_words w k
members_picked w k l = picked (bare_number k) (member_words w) k 32 l (member_passes k (bits w k)) (λ j m ne. member_fails k j (bits w j) m l ne)

same_if : {X : Type 0} (b c : Bool) (x y : X) → cond b (x ∷ []) [] ≡ cond c (y ∷ []) [] → b ≡ c
same_if true true x y e = refl
same_if true false x y e = cc
same_if false true x y e = cc
same_if false false x y e = refl

same_bits : (v w : ℕ) → v < 2 ^ 32 → w < 2 ^ 32 → ((k : ℕ) → k < 32 → bits v k ≡ bits w k) → v ≡ w
same_bits v w l m h = sym (those-bits v 32 l) ∙ those_cong (bits v) (bits w) 32 h ∙ those-bits w 32 m

pub same_members : (v w : ℕ) → v < 2 ^ 32 → w < 2 ^ 32 → listed (member_words v) 32 ≡ listed (member_words w) 32 → v ≡ w
same_members v w l m e = same_bits v w l m (λ k n.
    same_if (bits v k) (bits w k) (decimal k) (decimal k) (sym (members_picked v k n) ∙ ap (filter (bare_number k)) e ∙ members_picked w k n))

-- signed members
signed_number : ℕ → Word → Bool
signed_number k w = bytes_eq (drop 1 w) (decimal k)

sided_passes : (k : ℕ) (b s : Bool) → Passes (signed_number k) (cond b (sided s k ∷ []) [])
unfolding signed_number
sided_passes k true true = (same_bytes (decimal k), tt)
sided_passes k true false = (same_bytes (decimal k), tt)
sided_passes k false s = tt

sided_fails : (k j : ℕ) (b s : Bool) → j < 32 → k < 32 → j ≢ k → Fails (signed_number k) (cond b (sided s j ∷ []) [])
unfolding signed_number
sided_fails k j true true l m ne = (other_decimal j k l m ne, tt)
sided_fails k j true false l m ne = (other_decimal j k l m ne, tt)
sided_fails k j false s l m ne = tt

signed_picked : (s : Shown) (k : ℕ) → k < 32 → filter (signed_number k) (listed (signed_words s) 32) ≡ signed_words s k
signed_picked s k l = picked (signed_number k) (signed_words s) k 32 l (sided_passes k (bits s.members k) (bits s.against k)) (λ j m ne. sided_fails k j (bits s.members j) (bits s.against j) m l ne)

same_side : (k : ℕ) (b c : Bool) → sided b k ∷ [] ≡ sided c k ∷ [] → b ≡ c
same_side k true true e = refl
same_side k false false e = refl
same_side k true false e = absurd (let h : 45 ≡ 43 = ap (λ l. get_or (get_or l 0 []) 0 0) e in omega (arith, h))
same_side k false true e = absurd (let h : 43 ≡ 45 = ap (λ l. get_or (get_or l 0 []) 0 0) e in omega (arith, h))

-- a row's words, of which those against are members
pub record Row (s : Shown) : Type 0 where
  pub members : s.members < 2 ^ 32
  pub against : s.against < 2 ^ 32
  pub inside : (k : ℕ) → k < 32 → bits s.members k ≡ false → bits s.against k ≡ false

inside_sign : (x : Sign) (b : Bool) → (marks x && b) ≡ false → (backs x && b) ≡ false
inside_sign plus b h = refl
inside_sign none b h = refl
inside_sign minus b h = h

pub shown_row : (f : ℕ → Sign) → Row (shown f)
shown_row f = record {
  members = those_less (λ k. marks (f k)) 32;
  against = those_less (λ k. backs (f k)) 32;
  inside = λ k l h.
      ap (λ S. S k) (bits-those (λ j. backs (f j)) 32) ∙ inside_sign (f k) _ (sym (ap (λ S. S k) (bits-those (λ j. marks (f j)) 32)) ∙ h);
}

same_against : (k : ℕ) (b c s t : Bool) → (b ≡ false → s ≡ false) → (c ≡ false → t ≡ false) → cond b (sided s k ∷ []) [] ≡ cond c (sided t k ∷ []) [] → s ≡ t
same_against k true true s t h i e = same_side k s t e
same_against k true false s t h i e = cc
same_against k false true s t h i e = cc
same_against k false false s t h i e = h refl ∙ sym (i refl)

pub same_row : (s t : Shown) → Row s → Row t → listed (signed_words s) 32 ≡ listed (signed_words t) 32 → s ≡ t
same_row s t r q e =
    let at : (k : ℕ) → k < 32 → signed_words s k ≡ signed_words t k = λ k l. sym (signed_picked s k l) ∙ ap (filter (signed_number k)) e ∙ signed_picked t k l in
    let members : s.members ≡ t.members = same_bits s.members t.members r.members q.members (λ k l. same_if (bits s.members k) (bits t.members k) _ _ (at k l)) in
    let against : s.against ≡ t.against = same_bits s.against t.against r.against q.against (λ k l. same_against k (bits s.members k) (bits t.members k) (bits s.against k) (bits t.against k) (r.inside k l) (q.inside k l) (at k l)) in
    ap (λ m. record { members = m; against = s.against }) members ∙ ap (λ a. record { members = t.members; against = a }) against

-- the rows of a plan
abbrev pub Good : Answer (Option Shown) → Type 0
Good (granted None) = Unit {0}
Good (granted (Some s)) = Row s
Good (refused t) = ⊥

good_if : (b : Bool) (s : Shown) → Row s → Good (granted (cond b (Some s) None))
good_if true s r = r
good_if false s r = tt

pub good_loop : (p : Plan) (w k : ℕ) → tree_of p ≡ granted w → Good (loop_row_of p k)
unfolding loop_row_of
good_loop p w k e = subst (λ a. Good (after a (λ tree. granted (loop_of p tree k)))) (sym e)
    (good_if (placed p k && not (bits w k)) (shown (loop_row (graph_of p) (bits w) 32 k)) (shown_row (loop_row (graph_of p) (bits w) 32 k)))

pub good_cut : (p : Plan) (w k : ℕ) → tree_of p ≡ granted w → Good (cut_row_of p k)
unfolding cut_row_of
good_cut p w k e = subst (λ a. Good (after a (λ tree. granted (cut_of p tree k)))) (sym e)
    (good_if (bits w k) (shown (cut_row (graph_of p) (bits w) 32 k)) (shown_row (cut_row (graph_of p) (bits w) 32 k)))

words_of : List Line → List Word
words_of [] = []
words_of (l ∷ ls) = drop 1 l.words

pub same_lines : (name : Word) (k : ℕ) (a b : Answer (Option Shown)) → Good a → Good b → row_lines name k a ≡ row_lines name k b → a ≡ b
unfolding words_of
same_lines name k (granted None) (granted None) g h e = refl
same_lines name k (granted None) (granted (Some t)) g h e = cc
same_lines name k (granted (Some s)) (granted None) g h e = cc
same_lines name k (granted (Some s)) (granted (Some t)) g h e = ap (λ x. granted (Some x)) (same_row s t g h (ap words_of e))
same_lines name k (refused t) b g h e = absurd g
same_lines name k a (refused t) g h e = absurd h

-- a tree's word
pub tree_fits : (p : Plan) (w : ℕ) → tree_of p ≡ granted w → w < 2 ^ 32
tree_fits p w e =
    let same : word (tree_set p) ≡ w = granted_is _ _ (sym (proper_granted p (granted_tree p w e).1) ∙ e) in
    subst (λ x. x < 2 ^ 32) same (those_less (tree_set p) 32)
