-- A refused circuit's key is one line, and another circuit's key is its blocks.
use Rattle.std.proofs.Common.{◌≡◌, ◌≤◌, ℕ, Bool, true, false, cond, eqb, ltb, List, [], ◌∷◌, length, get_or, Some, None, Option, codes, decimal, sym, refl, ap, ◌∙◌, subst, append-nil, le-ltb, arith}
use lib.Ieee.{Float}
use Rattle.std.proofs.lemmas.Fmt.{decimal_injective}
use Rattle.std.specs.Fmt.{digits}
use Rattle.std.specs.List.{filter}
use Rattle.cards.specs.Reading.{Named}
use Rattle.sheet.specs.declared.plan.Plan.{Plan}
use Rattle.sheet.specs.declared.refusal.Refusal.{Refusal}
use Rattle.sheet.specs.declared.refusal.Refusal.TheVariants.{WrongLength, NoSuchPlace, PlaceTaken, PlaceEmpty, NoSuchKind, NoSuchNode, EndsMeet, BadValue, BadStart, NotASource, BadStepLength, VoltageLoop, CurrentCut, NoPivot, UnsoundResult, BadSlipRow, SlipAreaShort, ReadingOutOfRange, TraceNotFinite, TraceFull, NoSuchLetter, BadNumberField, ZeroDenominator, FieldLeftOver, InputTooLong}
use Rattle.sheet.specs.Calls.{Sheet}
use Rattle.sheet.specs.Refusals.{granted, refused, refuse, Told, means}
use Rattle.topology.specs.Trees.{tree_of}
use Rattle.printed_key.specs.Blocks.{refused_line, fault_line, shown_words, or_refused, or_fault_by}
use Rattle.printed_key.specs.Key.{Blocks, circuit_lines, lines_by, tree_by, circuit_tree, key_blocks, key_lines, key_text}
use Rattle.printed_key.specs.Telling.{read, plan_of, Ends}
use Rattle.printed_key.specs.Text.{Word, spaced, Line, line_text, text_of}
use Rattle.printed_key.proofs.Keying.{too_long, long_lines}
use Rattle.printed_key.proofs.Lines.{LineBare, lines_told, one_feed}
use Rattle.printed_key.proofs.Wording.{refused_bare, fault_bare}

-- the text of one line
one_text : (l : Line) → text_of (l ∷ []) ≡ line_text l
unfolding text_of
one_text l = append-nil (line_text l)

too_long_text : text_of too_long ≡ codes "refused 25\n"
unfolding text_of line_text spaced digits
too_long_text = refl

-- a line that begins with a refusal's number
abbrev numbered_line : Told → List Word → Line
numbered_line t ws = record { name = codes "refused"; words = decimal t.number ∷ ws }

abbrev Numbered : Told → List Line → Type 0
Numbered t ls = (ws : List Word) × LineBare (numbered_line t ws) × (ls ≡ numbered_line t ws ∷ [])

by_told : (t : Told) (ls : List Line) → ls ≡ refused_line t ∷ [] → Numbered t ls
by_told t ls e = (shown_words t.words, refused_bare t, e)

module _ (blocks : Blocks) where
  abbrev lines : Bool → Option Named → Sheet Float → List Line
  lines b o s = cond b too_long (or_fault_by (circuit_lines blocks) o s)

  refused_numbered : (b : Bool) (o : Option Named) (s : Sheet Float) (t : Told) → refuse 25 b (tree_by o s.plan) ≡ refused t → Numbered t (lines b o s)
  refused_numbered true o s t e =
      let same : record { number = 25; words = [] } ≡ t = cc in
      by_told t _ (ap (λ u. refused_line u ∷ []) same)
  refused_numbered false (Some f) s t e =
      let same : f.told ≡ t = cc in
      subst (λ u. Numbered u (fault_line f ∷ [])) same (codes "line" ∷ decimal f.line ∷ codes "byte" ∷ decimal f.byte ∷ [], fault_bare f, refl)
  refused_numbered false None s t e = by_told t _ (ap (or_refused (blocks s)) e)

  granted_lines : (b : Bool) (o : Option Named) (s : Sheet Float) (w : ℕ) → refuse 25 b (tree_by o s.plan) ≡ granted w → (tree_of s.plan ≡ granted w) × (lines b o s ≡ blocks s w)
  granted_lines true o s w e = cc
  granted_lines false (Some f) s w e = cc
  granted_lines false None s w e = (e, ap (or_refused (blocks s)) e)

granted_right : (b : Bool) (o : Option Named) (p : Plan) (w : ℕ) → refuse 25 b (tree_by o p) ≡ granted w → o ≡ None
granted_right true o p w e = cc
granted_right false (Some f) p w e = cc
granted_right false None p w e = refl

module _ (input : List ℕ) where
  abbrev blocks : Blocks
  blocks = key_blocks input

  abbrev long : Bool
  long = ltb 4096 (length input)

  key_is : key_lines input ≡ lines blocks long (read input).fault (read input).sheet
  unfolding lines_by
  key_is = refl

  pub numbered : (t : Told) → circuit_tree input ≡ refused t → Numbered t (key_lines input)
  unfolding circuit_tree lines_by
  numbered t e = refused_numbered blocks long (read input).fault (read input).sheet t e

  pub granted_tree_of : (w : ℕ) → circuit_tree input ≡ granted w → tree_of (plan_of input) ≡ granted w
  unfolding circuit_tree
  granted_tree_of w e = (granted_lines blocks long (read input).fault (read input).sheet w e).0

  pub granted_read : (w : ℕ) → circuit_tree input ≡ granted w → (read input).fault ≡ None
  unfolding circuit_tree
  granted_read w e = granted_right long (read input).fault (plan_of input) w e

  pub granted_blocks : (w : ℕ) → circuit_tree input ≡ granted w → key_lines input ≡ key_blocks input (read input).sheet w
  unfolding circuit_tree lines_by
  granted_blocks w e = (granted_lines blocks long (read input).fault (read input).sheet w e).1

  short : length input ≤ 4096 → key_lines input ≡ or_fault_by (circuit_lines blocks) (read input).fault (read input).sheet
  short h = key_is ∙ ap (λ b. lines blocks b (read input).fault (read input).sheet) (le-ltb 4096 (length input) h)

  pub ends : Ends input
  ends = record {
    too_long = λ h. ap text_of (long_lines blocks input h) ∙ too_long_text;
    fault = λ f h e. ap text_of (short h ∙ ap (λ o. or_fault_by (circuit_lines blocks) o (read input).sheet) e) ∙ one_text (fault_line f);
    tree = λ t h e k. ap text_of (short h ∙ ap (λ o. or_fault_by (circuit_lines blocks) o (read input).sheet) e ∙ ap (or_refused (blocks (read input).sheet)) k) ∙ one_text (refused_line t);
    lone = λ t e. let n = numbered t e in ap (filter (λ b. eqb b 10)) (ap text_of n.2 ∙ one_text (numbered_line t n.0)) ∙ one_feed (numbered_line t n.0) n.1;
    number = λ t e. let n = numbered t e in (n.0, ap text_of n.2 ∙ one_text (numbered_line t n.0));
  }

-- a refusal begins with another letter than a tree
pub text_apart : (input other : List ℕ) (t : Told) (w : ℕ) → circuit_tree input ≡ refused t → circuit_tree other ≡ granted w → key_text input ≡ key_text other → ⊥
unfolding text_of line_text spaced
text_apart input other t w e f same =
    let a : get_or (key_text input) 0 0 ≡ 114 = ap (λ ls. get_or (text_of ls) 0 0) (numbered input t e).2 in
    let b : get_or (key_text other) 0 0 ≡ 116 = ap (λ ls. get_or (text_of ls) 0 0) (granted_blocks other w f) in
    let c : get_or (key_text input) 0 0 ≡ get_or (key_text other) 0 0 = ap (λ l. get_or l 0 0) same in
    omega (arith, a, b, c)

-- a refusal's line tells its number
means_small : (r : Refusal) → (means r).number ≤ 25
means_small WrongLength = omega arith
means_small NoSuchPlace = omega arith
means_small PlaceTaken = omega arith
means_small PlaceEmpty = omega arith
means_small NoSuchKind = omega arith
means_small NoSuchNode = omega arith
means_small EndsMeet = omega arith
means_small BadValue = omega arith
means_small BadStart = omega arith
means_small NotASource = omega arith
means_small BadStepLength = omega arith
means_small (VoltageLoop s) = omega arith
means_small (CurrentCut s) = omega arith
means_small NoPivot = omega arith
means_small UnsoundResult = omega arith
means_small BadSlipRow = omega arith
means_small SlipAreaShort = omega arith
means_small ReadingOutOfRange = omega arith
means_small TraceNotFinite = omega arith
means_small TraceFull = omega arith
means_small NoSuchLetter = omega arith
means_small BadNumberField = omega arith
means_small ZeroDenominator = omega arith
means_small FieldLeftOver = omega arith
means_small InputTooLong = omega arith

first_word : List Line → Word
first_word [] = []
first_word (l ∷ ls) = get_or l.words 0 []

pub same_number : (input other : List ℕ) (r q : Refusal) → circuit_tree input ≡ refused (means r) → circuit_tree other ≡ refused (means q) → key_text input ≡ key_text other → (means r).number ≡ (means q).number
unfolding first_word
same_number input other r q e f same =
    let m = numbered input (means r) e in
    let n = numbered other (means q) f in
    let lines : numbered_line (means r) m.0 ∷ [] ≡ numbered_line (means q) n.0 ∷ [] = lines_told _ _ (m.1, tt) (n.1, tt) (sym (ap text_of m.2) ∙ same ∙ ap text_of n.2) in
    decimal_injective (means r).number (means q).number (omega (arith, means_small r)) (omega (arith, means_small q)) (ap first_word lines)
