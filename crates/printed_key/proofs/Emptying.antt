-- A card file whose circuit has no branch has no card, so that every arithmetic reads the blank sheet from it.
use Rattle.std.proofs.Common.{◌≡◌, ◌<◌, ℕ, suc, Bool, true, false, cond, ◌&&◌, eqb, ltb, List, [], ◌∷◌, length, get_or, set, is_some, Some, None, Option, refl, ap, ◌∙◌, subst, arith, lt-ltb, ltb-false, eqb-true, length-set, get_or-set_same, get_or-set_other}
use Rattle.std.proofs.lemmas.Bool.{eqb-false, both_ways}
use Rattle.arithmetic.specs.Ops.{Ops}
use Rattle.cards.specs.Cards.{Checked, right, wrong, then, byte_of, lettered, opened, line_of}
use Rattle.cards.specs.Fields.{Cutting, cutting}
use Rattle.cards.specs.Following.{blank_sheet}
use Rattle.cards.specs.Parts.{parts}
use Rattle.cards.specs.Reading.{State, onward, laid, settled, lines_done}
use Rattle.sheet.specs.declared.branch.Branch.{Branch}
use Rattle.sheet.specs.declared.kind.Kind.{Kind}
use Rattle.sheet.specs.declared.placement.Placement.{Placement}
use Rattle.sheet.specs.declared.plan.Plan.{Plan}
use Rattle.sheet.specs.Calls.{Sheet, place, outcome}
use Rattle.sheet.specs.Kinds.{kind_lettered}
use Rattle.sheet.specs.Meanings.{meanings}
use Rattle.sheet.specs.Plans.{with_branch}
use Rattle.sheet.specs.Refusals.{Answer, granted, refused, refuse, after}
use Rattle.networks.specs.Networks.{placed}
use Rattle.printed_key.specs.Telling.{read_in}

-- a plan with a branch more
put_here : (p : Plan) (n : ℕ) (b : Branch) → length p.places ≡ 32 → n < 32 → placed (with_branch p n (Some b)) n ≡ true
unfolding placed
put_here p n b all l =
    ap (λ c. c && is_some (get_or (set p.places n (Some b)) n None)) (lt-ltb n 32 l)
    ∙ ap is_some (get_or-set_same p.places n (Some b) None (omega (arith, all)))

put_there : (p : Plan) (n : ℕ) (b : Branch) (k : ℕ) (c : Bool) → eqb k n ≡ c → length p.places ≡ 32 → n < 32 → placed p k ≡ true → placed (with_branch p n (Some b)) k ≡ true
unfolding placed
put_there p n b k true e all l h = let same : k ≡ n = eqb-true k n e in ap (placed (with_branch p n (Some b))) same ∙ put_here p n b all l
put_there p n b k false e all l h = ap (λ o. ltb k 32 && is_some o) (get_or-set_other p.places n k (Some b) None (eqb-false k n e)) ∙ h

record Placing {M : Type 0} (s t : Sheet M) (n : ℕ) : Type 0 where
  all : length t.plan.places ≡ 32
  here : placed t.plan n ≡ true
  there : (k : ℕ) → placed s.plan k ≡ true → placed t.plan k ≡ true

admitted_parts :
    {X S : Type 0} (a b c : Bool) (d : Answer X) (f : X → S) (t : S) → refuse 1 a (refuse 2 b (refuse 3 c (after d (λ x. granted (f x))))) ≡ granted t →
    (b ≡ false) × (x : X) × (f x ≡ t)
admitted_parts true b c d f t e = cc
admitted_parts false true c d f t e = cc
admitted_parts false false true d f t e = cc
admitted_parts false false false (refused u) f t e = cc
admitted_parts false false false (granted x) f t e = (refl, x, cc)

module _ {M : Type 0} (o : Ops M) where
  placing_keeps : (p : Placement M) (s t : Sheet M) → length s.plan.places ≡ 32 → outcome (meanings o) (length s.rows) (place p) s ≡ granted t → Placing s t p.number
  placing_keeps p s t all e =
      let q = admitted_parts _ _ _ _ _ _ e in
      let l : p.number < 32 = omega (arith, ltb-false 31 p.number q.0) in
      subst (λ u. Placing s u p.number) q.2 (record {
        all = length-set s.plan.places p.number _ ∙ all;
        here = put_here s.plan p.number q.1.0 all l;
        there = λ k h. put_there s.plan p.number q.1.0 k (eqb k p.number) refl all l h;
      })

  -- a branch stays
  settled_keeps :
      (n : ℕ) (p : Placement M) (s : Sheet M) (a : Answer (Sheet M)) (go : Sheet M → State M) (k : ℕ) → outcome (meanings o) (length s.rows) (place p) s ≡ a → length s.plan.places ≡ 32 →
      ((t : Sheet M) → length t.plan.places ≡ 32 → placed t.plan k ≡ true → placed (go t).sheet.plan k ≡ true) → placed s.plan k ≡ true → placed (onward (settled n s a) go).sheet.plan k ≡ true
  settled_keeps n p s (granted t) go k e all f h = let q = placing_keeps p s t all e in f t q.all (q.there k h)
  settled_keeps n p s (refused t) go k e all f h = h

  laid_keeps :
      (n : ℕ) (s : Sheet M) (c : Checked (Option (Placement M))) (go : Sheet M → State M) (k : ℕ) → length s.plan.places ≡ 32 →
      ((t : Sheet M) → length t.plan.places ≡ 32 → placed t.plan k ≡ true → placed (go t).sheet.plan k ≡ true) → placed s.plan k ≡ true → placed (onward (laid o n s c) go).sheet.plan k ≡ true
  laid_keeps n s (wrong t b) go k all f h = h
  laid_keeps n s (right None) go k all f h = f s all h
  laid_keeps n s (right (Some p)) go k all f h = settled_keeps n p s _ go k refl all f h

  lines_keep : (ls : List (List ℕ)) (n k : ℕ) (s : Sheet M) → length s.plan.places ≡ 32 → placed s.plan k ≡ true → placed (lines_done o n ls s).sheet.plan k ≡ true
  lines_keep [] n k s all h = h
  lines_keep (l ∷ ls) n k s all h = laid_keeps (suc n) s (line_of o l) (lines_done o (suc n) ls) k all (λ t a g. lines_keep ls (suc n) k t a g) h

-- a line without a card
skips : List ℕ → Bool
skips [] = true
skips (b ∷ bs) = eqb b 42

abbrev Quiet : List ℕ → Type 0
Quiet line = skips (cutting line).first.text ≡ true

abbrev AllQuiet : List (List ℕ) → Type 0
AllQuiet [] = Unit {0}
AllQuiet (l ∷ ls) = Quiet l × AllQuiet ls

module _ {M : Type 0} (o : Ops M) where
  opened_quiet : (text : List ℕ) (c : Cutting) → skips text ≡ true → opened o text c ≡ right None
  unfolding skips
  opened_quiet [] c e = refl
  opened_quiet (b ∷ bs) c e = ap (λ t. cond t (right None) (lettered o (kind_lettered b) (byte_of c.first) bs c)) e

  no_card : {P : Type 0} (x : Checked P) → then x (λ p. right (Some p)) ≡ right None → ⊥
  no_card (right p) e = cc
  no_card (wrong t b) e = cc

  lettered_card : (k : Option Kind) (byte : ℕ) (bs : List ℕ) (c : Cutting) → lettered o k byte bs c ≡ right None → ⊥
  lettered_card None byte bs c e = cc
  lettered_card (Some k) byte bs c e = no_card _ e

  quiet_if : (t : Bool) (x : Checked (Option (Placement M))) → (x ≡ right None → ⊥) → cond t (right None) x ≡ right None → t ≡ true
  quiet_if true x f e = refl
  quiet_if false x f e = absurd (f e)

  quiet_opened : (text : List ℕ) (c : Cutting) → opened o text c ≡ right None → skips text ≡ true
  unfolding skips
  quiet_opened [] c e = refl
  quiet_opened (b ∷ bs) c e = quiet_if (eqb b 42) (lettered o (kind_lettered b) _ bs c) (lettered_card (kind_lettered b) _ bs c) e

  quiet_done : (ls : List (List ℕ)) (n : ℕ) (s : Sheet M) → AllQuiet ls → lines_done o n ls s ≡ record { fault = None; sheet = s }
  quiet_done [] n s h = refl
  quiet_done (l ∷ ls) n s h =
      ap (λ c. onward (laid o (suc n) s c) (lines_done o (suc n) ls)) (opened_quiet (cutting l).first.text (cutting l) h.0)
      ∙ quiet_done ls (suc n) s h.1

  abbrev NoBranch : State M → Type 0
  NoBranch st = (st.fault ≡ None) × ((k : ℕ) → placed st.sheet.plan k ≡ false)

  settled_branch :
      (n m : ℕ) (p : Placement M) (s : Sheet M) (a : Answer (Sheet M)) (ls : List (List ℕ)) → outcome (meanings o) (length s.rows) (place p) s ≡ a → length s.plan.places ≡ 32 →
      NoBranch (onward (settled n s a) (lines_done o m ls)) → ⊥
  settled_branch n m p s (granted t) ls e all h =
      let q = placing_keeps o p s t all e in
      let yes : placed (lines_done o m ls t).sheet.plan p.number ≡ true = lines_keep o ls m p.number t q.all q.here in
      both_ways _ (h.1 p.number) yes
  settled_branch n m p s (refused t) ls e all h = let no = h.0 in cc

  quiet_laid :
      (n m : ℕ) (l : List ℕ) (s : Sheet M) (c : Checked (Option (Placement M))) (ls : List (List ℕ)) → line_of o l ≡ c → length s.plan.places ≡ 32 →
      (NoBranch (lines_done o m ls s) → AllQuiet ls) → NoBranch (onward (laid o n s c) (lines_done o m ls)) → AllQuiet (l ∷ ls)
  quiet_laid n m l s (wrong t b) ls e all f h = let no = h.0 in cc
  quiet_laid n m l s (right None) ls e all f h = (quiet_opened (cutting l).first.text (cutting l) e, f h)
  quiet_laid n m l s (right (Some p)) ls e all f h = absurd (settled_branch n m p s _ ls refl all h)

  quiet_lines : (ls : List (List ℕ)) (n : ℕ) (s : Sheet M) → length s.plan.places ≡ 32 → NoBranch (lines_done o n ls s) → AllQuiet ls
  quiet_lines [] n s all h = tt
  quiet_lines (l ∷ ls) n s all h = quiet_laid (suc n) (suc n) l s (line_of o l) ls refl all (λ g. quiet_lines ls (suc n) s all g) h

-- what two arithmetics read where one reads no branch
abbrev pub blank_read : {M : Type 0} → Ops M → State M
blank_read o = record { fault = None; sheet = blank_sheet o }

pub no_cards : {M N : Type 0} (o : Ops M) (u : Ops N) (input : List ℕ) → (read_in o input).fault ≡ None → ((k : ℕ) → placed (read_in o input).sheet.plan k ≡ false) → read_in u input ≡ blank_read u
no_cards o u input e h = quiet_done u (parts 10 input) 0 (blank_sheet u) (quiet_lines o (parts 10 input) 0 (blank_sheet o) refl (e, h))
