-- The lines after the rows tell the readings and the remainders.
use Rattle.std.proofs.Common.{◌≡◌, ◌≢◌, ◌<◌, ◌≤◌, ◌^◌, ℕ, zero, suc, Bool, true, false, cond, eqb, leb, List, [], ◌∷◌, ◌++◌, length, get_or, drop, ℤ, Some, None, Option, codes, sym, refl, ap, ◌∙◌, subst, arith, eqb-true}
use Rattle.std.proofs.Math.ListN.{get_or-append}
use Rattle.std.proofs.Math.Seq.{get_or-append_seam}
use Rattle.std.proofs.Math.Facts.{ltb_yes}
use Rattle.std.proofs.lemmas.Bool.{eqb-false, leb-false}
use Rattle.std.proofs.lemmas.Fmt.{decimal_injective, signed_decimal_injective}
use Rattle.std.proofs.lemmas.List.{append_cancel_left, length-append, ext_get_or}
use Rattle.std.specs.Float.{nan, inf, fin}
use Rattle.std.specs.Int.Signed.{mag}
use Rattle.std.specs.List.{filter}
use Rattle.std.specs.Prelude.{slice_index_or}
use Rattle.std.specs.Str.{bytes_eq}
use lib.Ieee.{Float}
use Rattle.arithmetic.specs.Binary64.{binary64_ops}
use Rattle.arithmetic.specs.Residues.{Residue, residue, residue_ops}
use Rattle.cards.specs.Reading.{Named, State}
use Rattle.figures.specs.Readings.{signed, reading_of, reading_at}
use Rattle.sheet.specs.declared.branch.Branch.{Branch}
use Rattle.sheet.specs.declared.look.Look.{Look}
use Rattle.sheet.specs.declared.plan.Plan.{Plan}
use Rattle.sheet.specs.declared.row.Row.{Row}
use Rattle.sheet.specs.Calls.{Sheet, present, left}
use Rattle.sheet.specs.Looks.{seen}
use Rattle.sheet.specs.Refusals.{Answer, granted, refused, refuse, after, Told}
use Rattle.networks.specs.Networks.{placed}
use Rattle.networks.specs.Words.{bits}
use Rattle.printed_key.specs.Blocks.{sided, signed_words, shown_words, refused_line, fault_line, or_refused, one_step, reading_here, readings_below, reading_line, reading_lines, readings_after, step_lines, remainder_line, remainder_lines, or_fault_by, residue_step_lines, residue_lines}
use Rattle.printed_key.specs.Telling.{read_in, figures, SameFigures, Alike, AlikeBy}
use Rattle.printed_key.specs.Text.{Word, Line, listed}
use Rattle.printed_key.proofs.Networking.{at, own_place, other_place, other_name, residues_fail}
use Rattle.printed_key.proofs.Picking.{Fails, Passes, filter_fails, fails_listed, picked, after_fails, before_fails}
use Rattle.printed_key.proofs.Stepping.{plan_kept}

-- what a reading may be
abbrev pub Small : Option ℤ → Type 0
Small None = Unit {0}
Small (Some z) = mag z < 2 ^ 63

signed_small : (s : Bool) (n : ℕ) → n < 1_000_000_000 → mag (signed s n) < 2 ^ 63
signed_small false n l = omega arith
signed_small true zero l = omega arith
signed_small true (suc n) l = omega arith

ranged_small : (s : Bool) (n : ℕ) (z : ℤ) (b : Bool) → leb 1_000_000_000 n ≡ b → refuse 18 b (granted (signed s n)) ≡ granted z → mag z < 2 ^ 63
ranged_small s n z true f e = cc
ranged_small s n z false f e =
    let same : signed s n ≡ z = cc in
    subst (λ y. mag y < 2 ^ 63) same (signed_small s n (leb-false 1_000_000_000 n f))

reading_small : (v : Float) (z : ℤ) → reading_of v ≡ granted z → mag z < 2 ^ 63
unfolding reading_of
reading_small nan z e = cc
reading_small (inf s) z e = cc
reading_small (fin s m x) z e = ranged_small s _ z _ refl e

found : (a b : Bool) (o : Option Branch) (r : Answer ℤ) (z : ℤ) → refuse 1 a (refuse 2 b (after (present o) (λ _. r))) ≡ granted z → r ≡ granted z
found true b o r z e = cc
found false true o r z e = cc
found false false None r z e = cc
found false false (Some x) r z e = e

here_small : (b : Bool) (a : Answer ℤ) (x : Option ℤ) → ((z : ℤ) → a ≡ granted z → mag z < 2 ^ 63) → cond b (after a (λ z. granted (Some z))) (granted None) ≡ granted x → Small x
here_small true (granted z) x h e = let same : Some z ≡ x = cc in subst Small same (h z refl)
here_small true (refused t) x h e = cc
here_small false a x h e = let same : None ≡ x = cc in subst Small same tt

here_some : (b : Bool) (a : Answer ℤ) (x : Option ℤ) → cond b (after a (λ z. granted (Some z))) (granted None) ≡ granted x → b ≡ true → x ≡ None → ⊥
here_some true (granted z) x e h n = cc
here_some true (refused t) x e h n = cc
here_some false a x e h n = cc

-- all readings, from those below a number
next_parts :
    (a : Answer (List (Option ℤ))) (b : Answer (Option ℤ)) (zs : List (Option ℤ)) → after a (λ ys. after b (λ z. granted (ys ++ (z ∷ [])))) ≡ granted zs →
    (ys : List (Option ℤ)) × (z : Option ℤ) × (a ≡ granted ys) × (b ≡ granted z) × (ys ++ (z ∷ []) ≡ zs)
next_parts (granted ys) (granted z) zs e = (ys, z, refl, refl, cc)
next_parts (granted ys) (refused t) zs e = cc
next_parts (refused t) b zs e = cc

record Each (p : Plan) (rows : List (Row Float)) (n : ℕ) (zs : List (Option ℤ)) : Type 0 where
  all : length zs ≡ n
  each : (k : ℕ) → k < n → reading_here p rows k ≡ granted (get_or zs k None)

each_next : (p : Plan) (rows : List (Row Float)) (n : ℕ) (ys zs : List (Option ℤ)) (z : Option ℤ) → Each p rows n ys → reading_here p rows n ≡ granted z → ys ++ (z ∷ []) ≡ zs → Each p rows (suc n) zs
each_next p rows n ys zs z h e f = subst (Each p rows (suc n)) f (record {
  all = length-append ys (z ∷ []) ∙ omega (arith, h.all);
  each = λ k l. go k l (eqb k n) refl;
})
  where
    go : (k : ℕ) → k < suc n → (b : Bool) → eqb k n ≡ b → reading_here p rows k ≡ granted (get_or (ys ++ (z ∷ [])) k None)
    go k l true q =
        let same : k ≡ n = eqb-true k n q in
        ap (reading_here p rows) same ∙ e ∙ ap granted (sym (get_or-append_seam ys z [] None)) ∙ ap (λ i. granted (get_or (ys ++ (z ∷ [])) i None)) (h.all ∙ sym same)
    go k l false q =
        let other : k ≢ n = eqb-false k n q in
        let below : k < n = omega (arith, other) in
        h.each k below ∙ ap granted (sym (get_or-append ys (z ∷ []) None k (omega (arith, h.all))))

each : (p : Plan) (rows : List (Row Float)) (n : ℕ) (zs : List (Option ℤ)) → readings_below p rows n ≡ granted zs → Each p rows n zs
unfolding readings_below
each p rows zero zs e =
    let same : [] ≡ zs = cc in
    subst (Each p rows zero) same (record { all = refl; each = λ k l. absurd (omega arith) })
each p rows (suc n) zs e =
    let q = next_parts (readings_below p rows n) (reading_here p rows n) zs e in
    each_next p rows n q.0 zs q.1 (each p rows n q.0 q.2) q.3 q.4

-- readings of a plan: each small, and one at each branch
pub record Taken (p : Plan) (zs : List (Option ℤ)) : Type 0 where
  pub all : length zs ≡ 32
  pub small : (k : ℕ) → k < 32 → Small (get_or zs k None)
  pub some : (k : ℕ) → k < 32 → placed p k ≡ true → get_or zs k None ≡ None → ⊥

taken_of : (p : Plan) (rows : List (Row Float)) (zs : List (Option ℤ)) → Each p rows 32 zs → Taken p zs
taken_of p rows zs h = record {
  all = h.all;
  small = λ k l. here_small (placed p k) (reading_at p rows k) (get_or zs k None) (λ z e. reading_small _ z (found _ _ _ _ z e)) (h.each k l);
  some = λ k l m n. here_some (placed p k) (reading_at p rows k) (get_or zs k None) (h.each k l) m n;
}

stepped_parts : (a : Answer (Sheet Float)) (zs : List (Option ℤ)) → after a (λ t. readings_below t.plan t.rows 32) ≡ granted zs → (t : Sheet Float) × (a ≡ granted t) × (readings_below t.plan t.rows 32 ≡ granted zs)
stepped_parts (granted t) zs e = (t, refl, e)
stepped_parts (refused t) zs e = cc

pub taken : (s : Sheet Float) (zs : List (Option ℤ)) → readings_after s ≡ granted zs → Taken s.plan zs
taken s zs e =
    let q = stepped_parts (one_step binary64_ops s) zs e in
    let plan : q.0.plan ≡ s.plan = sym (ap (λ a. (left s a).plan) q.1) ∙ plan_kept binary64_ops s in
    subst (λ p. Taken p zs) plan (taken_of q.0.plan q.0.rows zs (each q.0.plan q.0.rows 32 zs q.2))

-- the words of a line
words_of : List Line → List Word
words_of [] = []
words_of (l ∷ ls) = l.words

same_reading : (k : ℕ) (x y : Option ℤ) → Small x → Small y → reading_line k x ≡ reading_line k y → x ≡ y
unfolding words_of
same_reading k None None h i e = refl
same_reading k None (Some z) h i e = cc
same_reading k (Some y) None h i e = cc
same_reading k (Some y) (Some z) h i e = ap Some (signed_decimal_injective y z h i (ap (λ ls. get_or (words_of ls) 1 []) e))

-- the line of a reading
steps_at : Answer (List (Option ℤ)) → ℕ → List Line
steps_at (granted zs) k = reading_line k (slice_index_or zs k None)
steps_at (refused t) k = []

reading_own : (k : ℕ) (o : Option ℤ) → Passes (at (codes "mv") k) (reading_line k o)
reading_own k None = tt
reading_own k (Some z) = (own_place (codes "mv") k _, tt)

reading_other : (k j : ℕ) (o : Option ℤ) → j < 32 → k < 32 → j ≢ k → Fails (at (codes "mv") k) (reading_line j o)
reading_other k j None l m ne = tt
reading_other k j (Some z) l m ne = (other_place (codes "mv") k j _ l m ne, tt)

steps_picked : (a : Answer (List (Option ℤ))) (R : List Line) (k : ℕ) → k < 32 → Fails (at (codes "mv") k) R → filter (at (codes "mv") k) (or_refused reading_lines a ++ R) ≡ steps_at a k
unfolding steps_at
steps_picked (granted zs) R k l h =
    before_fails (at (codes "mv") k) (reading_lines zs) R h
    ∙ picked (at (codes "mv") k) (λ j. reading_line j (slice_index_or zs j None)) k 32 l (reading_own k _) (λ j m ne. reading_other k j _ m l ne)
steps_picked (refused t) R k l h =
    after_fails (at (codes "mv") k) (refused_line t ∷ []) R (other_name (codes "refused") (codes "mv") k _ refl, tt)
    ∙ filter_fails (at (codes "mv") k) R h

no_line : (k : ℕ) (x : Option ℤ) → reading_line k x ≡ [] → x ≡ None
no_line k None e = refl
no_line k (Some z) e = cc

module _ (p q : Plan) (R Q : List Line) (k : ℕ) (l : k < 32) (here : placed p k ≡ true) (there : placed q k ≡ true) (h : (j : ℕ) → Fails (at (codes "mv") j) R) (i : (j : ℕ) → Fails (at (codes "mv") j) Q) where
  same_at : (a b : Answer (List (Option ℤ))) → or_refused reading_lines a ++ R ≡ or_refused reading_lines b ++ Q → (j : ℕ) → j < 32 → steps_at a j ≡ steps_at b j
  same_at a b e j m = sym (steps_picked a R j m (h j)) ∙ ap (filter (at (codes "mv") j)) e ∙ steps_picked b Q j m (i j)

  same_steps :
      (a b : Answer (List (Option ℤ))) → ((zs : List (Option ℤ)) → a ≡ granted zs → Taken p zs) → ((zs : List (Option ℤ)) → b ≡ granted zs → Taken q zs) →
      or_refused reading_lines a ++ R ≡ or_refused reading_lines b ++ Q → Alike ◌≡◌ a b × (R ≡ Q)
  unfolding steps_at
  same_steps (granted ys) (granted zs) f g e =
      let y = f ys refl in
      let z = g zs refl in
      let same : ys ≡ zs = ext_get_or None ys zs (y.all ∙ sym z.all) (λ j m.
      let n : j < 32 = omega (arith, y.all) in
      same_reading j (get_or ys j None) (get_or zs j None) (y.small j n) (z.small j n) (same_at (granted ys) (granted zs) e j n)) in
      (same, append_cancel_left (reading_lines zs) R Q (ap (λ x. reading_lines x ++ R) (sym same) ∙ e))
  same_steps (granted ys) (refused t) f g e = absurd ((f ys refl).some k l here (no_line k _ (same_at (granted ys) (refused t) e k l)))
  same_steps (refused t) (granted zs) f g e = absurd ((g zs refl).some k l there (no_line k _ (sym (same_at (refused t) (granted zs) e k l))))
  same_steps (refused t) (refused u) f g e = (ap (λ ls. get_or ls 0 (refused_line t)) e, ap (drop 1) e)

pub alike_steps :
    (input other : List ℕ) (s t : Sheet Float) (k : ℕ) → k < 32 → placed s.plan k ≡ true → placed t.plan k ≡ true → step_lines s ++ residue_lines input ≡ step_lines t ++ residue_lines other →
    Alike ◌≡◌ (readings_after s) (readings_after t) × (residue_lines input ≡ residue_lines other)
unfolding step_lines
alike_steps input other s t k l here there e =
    same_steps s.plan t.plan (residue_lines input) (residue_lines other) k l here there
    (λ j. residues_fail (codes "mv") j refl refl input) (λ j. residues_fail (codes "mv") j refl refl other)
    (readings_after s) (readings_after t) (taken s) (taken t) e

-- remainders
same_figures : (k : ℕ) (x y : Option (Look Residue)) → remainder_line k x ≡ remainder_line k y → figures x ≡ figures y
unfolding words_of
same_figures k None None e = refl
same_figures k None (Some m) e = cc
same_figures k (Some l) None e = cc
same_figures k (Some l) (Some m) e =
    let a : l.current.0 < 8191 = ltb_yes l.current.1 in
    let b : m.current.0 < 8191 = ltb_yes m.current.1 in
    let c : l.voltage.0 < 8191 = ltb_yes l.voltage.1 in
    let d : m.voltage.0 < 8191 = ltb_yes m.voltage.1 in
    let i : l.current.0 ≡ m.current.0 = decimal_injective _ _ (omega arith) (omega arith) (ap (λ ls. get_or (words_of ls) 1 []) e) in
    let u : l.voltage.0 ≡ m.voltage.0 = decimal_injective _ _ (omega arith) (omega arith) (ap (λ ls. get_or (words_of ls) 2 []) e) in
    ap (λ x. Some (x, l.voltage.0)) i ∙ ap (λ x. Some (m.current.0, x)) u

remainder_own : (k : ℕ) (o : Option (Look Residue)) → Passes (at (codes "res") k) (remainder_line k o)
remainder_own k None = tt
remainder_own k (Some l) = (own_place (codes "res") k _, tt)

remainder_other : (k j : ℕ) (o : Option (Look Residue)) → j < 32 → k < 32 → j ≢ k → Fails (at (codes "res") k) (remainder_line j o)
remainder_other k j None l m ne = tt
remainder_other k j (Some x) l m ne = (other_place (codes "res") k j _ l m ne, tt)

remainders_picked : (s : Sheet Residue) (k : ℕ) → k < 32 → filter (at (codes "res") k) (remainder_lines s) ≡ remainder_line k (seen (residue 0) s.plan s.rows k)
remainders_picked s k l =
    picked (at (codes "res") k) (λ j. remainder_line j (seen (residue 0) s.plan s.rows j)) k 32 l (remainder_own k _) (λ j m ne. remainder_other k j _ m l ne)

-- a line of a refusal is no line of remainders
is_refusal : Line → Bool
is_refusal l = bytes_eq l.name (codes "refused")

remainder_no_refusal : (k : ℕ) (o : Option (Look Residue)) → Fails is_refusal (remainder_line k o)
unfolding is_refusal
remainder_no_refusal k None = tt
remainder_no_refusal k (Some l) = (refl, tt)

is_cons : (x : Line) (xs : List Line) → [] ≡ x ∷ xs → ⊥
is_cons x xs e = cc

no_refusal : (s : Sheet Residue) (ws : List Word) → remainder_lines s ≡ record { name = codes "refused"; words = ws } ∷ [] → ⊥
unfolding is_refusal
no_refusal s ws e =
    let none : filter is_refusal (remainder_lines s) ≡ [] = filter_fails is_refusal (remainder_lines s) (fails_listed is_refusal _ 32 (λ j l. remainder_no_refusal j (seen (residue 0) s.plan s.rows j))) in
    is_cons _ _ (sym none ∙ ap (filter is_refusal) e)

-- a refusal's second word begins with a sign, and a fault's with a letter
Low : List Word → Type 0
Low ws = get_or (get_or ws 0 []) 0 0 ≤ 45

low_more : (xs ys : List Word) → Low xs → Low ys → Low (xs ++ ys)
unfolding Low
low_more [] ys h i = i
low_more (x ∷ xs) ys h i = h

low_listed : (f : ℕ → List Word) (n : ℕ) → ((k : ℕ) → Low (f k)) → Low (listed f n)
unfolding Low listed
low_listed f zero h = omega arith
low_listed f (suc n) h = low_more (listed f n) (f n) (low_listed f n h) (h n)

low_sided : (b c : Bool) (k : ℕ) → Low (cond b (sided c k ∷ []) [])
unfolding Low
low_sided true true k = omega arith
low_sided true false k = omega arith
low_sided false c k = omega arith

low_shown : (ws : List ℕ) → Low (shown_words ws)
unfolding Low
low_shown [] = omega arith
low_shown (m ∷ []) = omega arith
low_shown (m ∷ a ∷ ws) = low_listed (signed_words (record { members = m; against = a })) 32 (λ k. low_sided (bits m k) (bits a k) k)

no_fault : (t : Told) (f : Named) → refused_line t ≡ fault_line f → ⊥
unfolding Low
no_fault t f e =
    let same : get_or (get_or (shown_words t.words) 0 []) 0 0 ≡ 108 = ap (λ l. get_or (get_or l.words 1 []) 0 0) e in
    omega (arith, same, low_shown t.words)

alike_figures : (a b : Answer (Sheet Residue)) → or_refused remainder_lines a ≡ or_refused remainder_lines b → Alike SameFigures a b
alike_figures (granted s) (granted t) e = λ k l.
    same_figures k _ _ (sym (remainders_picked s k l) ∙ ap (filter (at (codes "res") k)) e ∙ remainders_picked t k l)
alike_figures (granted s) (refused u) e = no_refusal s _ e
alike_figures (refused u) (granted t) e = no_refusal t _ (sym e)
alike_figures (refused t) (refused u) e = ap (λ ls. get_or ls 0 (refused_line t)) e

granted_no_fault : (a : Answer (Sheet Residue)) (f : Named) → or_refused remainder_lines a ≡ fault_line f ∷ [] → ⊥
granted_no_fault (granted s) f e = no_refusal s _ e
granted_no_fault (refused t) f e = no_fault t f (ap (λ ls. get_or ls 0 (refused_line t)) e)

alike_by : (e f : Option Named) (s t : Sheet Residue) → or_fault_by residue_step_lines e s ≡ or_fault_by residue_step_lines f t → AlikeBy e f s t
alike_by None None s t h = alike_figures (one_step residue_ops s) (one_step residue_ops t) h
alike_by None (Some f) s t h = granted_no_fault (one_step residue_ops s) f h
alike_by (Some e) None s t h = granted_no_fault (one_step residue_ops t) e (sym h)
alike_by (Some e) (Some f) s t h = ap (λ ls. get_or ls 0 (fault_line e)) h

pub alike_residues : (input other : List ℕ) → residue_lines input ≡ residue_lines other → AlikeBy (read_in residue_ops input).fault (read_in residue_ops other).fault (read_in residue_ops input).sheet (read_in residue_ops other).sheet
unfolding residue_lines
alike_residues input other e = alike_by _ _ _ _ e

-- what is the same is alike
pub alike_same : {X : Type 0} (a b : Answer X) → a ≡ b → Alike ◌≡◌ a b
alike_same {X = X} a b e = subst (Alike ◌≡◌ a) e (own a)
  where
    own : (a : Answer X) → Alike ◌≡◌ a a
    own (granted x) = refl
    own (refused t) = refl

pub alike_states : (s t : State Residue) → s ≡ t → AlikeBy s.fault t.fault s.sheet t.sheet
alike_states s t e = subst (λ u. AlikeBy s.fault u.fault s.sheet u.sheet) e (alike_by s.fault s.fault s.sheet s.sheet refl)
