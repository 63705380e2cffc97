-- A text is accepted exactly where it follows the rules, and its first fault is the one that is named. Assumes nothing.
use Rattle.std.proofs.Common.{◌≡◌, ℕ, suc, ◌+◌, Bool, true, false, not, eqb, List, [], ◌∷◌, ◌++◌, length, Some, None, Option, sym, refl, ap, ◌∙◌, subst, inl, inr, add-zero, arith}
use Rattle.std.proofs.lemmas.List.{length-map}
use Rattle.std.proofs.lemmas.Bool.{eqb-true, eqb-false, eq-eqb, ne_eqb}
use Rattle.arithmetic.specs.Ops.{Ops}
use Rattle.sheet.specs.declared.placement.Placement.{Placement}
use Rattle.sheet.specs.declared.plan.Plan.{Plan}
use Rattle.sheet.specs.declared.row.Row.{Row}
use Rattle.sheet.specs.Calls.{Sheet}
use Rattle.sheet.specs.Meanings.{meant_row, meant_sheet}
use Rattle.sheet.specs.Refusals.{Answer, granted, refused, refuse}
use Rattle.cards.specs.declared.fault.Layer.TheVariants as layer
use Rattle.cards.specs.Cards.{Checked, right, wrong, line_of}
use Rattle.cards.specs.Following.{cards_of, LineSays, Says, blank_sheet, placing, Placed, Follows, FaultOf, FaultAmong, FirstFault, Accepts, Blames}
use Rattle.cards.specs.Parts.{parts}
use Rattle.cards.specs.Reading.{Named, State, onward, settled, laid, lines_done, begun, cards_read}
use Rattle.cards.specs.Rules.{WrongLine}
use Rattle.cards.proofs.Lining.{line_tells}
use Rattle.cards.proofs.Shaping.{parted_parts, parted_is}
use Rattle.cards.proofs.Showing.{some_none}

-- all went well, and that is the sheet
abbrev well : {M : Type 0} → Sheet M → State M
well t = record { fault = None; sheet = t }

abbrev ill : {M : Type 0} → Named → Sheet M → State M
ill f t = record { fault = Some f; sheet = t }

not-ill : {M A : Type 0} (f : Named) (s t : Sheet M) → ill f s ≡ well t → A
not-ill f s t e = some_none f (ap (λ x. x.fault) e)

module _ {M : Type 0} (o : Ops M) where
  abbrev WellDone : List (List ℕ) → Sheet M → Sheet M → Type 0
  WellDone ls s t = (es : List (Option (Placement M))) × Says o ls es × Placed o s (cards_of es) t

  well_so : (n : ℕ) (ls : List (List ℕ)) (s t : Sheet M) → lines_done o n ls s ≡ well t → WellDone ls s t
  well_so n [] s t e = ([], tt, ap (λ x. x.sheet) e)
  well_so n (l ∷ ls) s t e = go (line_of o l) refl (λ u e. well_so (suc n) ls u t e) e
    where
      placed_so : (p : Placement M) → line_of o l ≡ right (Some p) → (a : Answer (Sheet M)) → placing o p s ≡ a → ((u : Sheet M) → lines_done o (suc n) ls u ≡ well t → WellDone ls u t)
          → onward (settled (suc n) s a) (lines_done o (suc n) ls) ≡ well t → WellDone (l ∷ ls) s t
      placed_so p is (granted u) at more e = let h = more u e in (Some p ∷ h.0, ((line_tells o l).right_so (Some p) is, h.1), (u, at, h.2))
      placed_so p is (refused v) at more e = not-ill _ _ t e

      go : (r : Checked (Option (Placement M))) → line_of o l ≡ r → ((u : Sheet M) → lines_done o (suc n) ls u ≡ well t → WellDone ls u t)
          → onward (laid o (suc n) s r) (lines_done o (suc n) ls) ≡ well t → WellDone (l ∷ ls) s t
      go (wrong v b) is more e = not-ill _ _ t e
      go (right None) is more e = let h = more s e in (None ∷ h.0, ((line_tells o l).right_so None is, h.1), h.2)
      go (right (Some p)) is more e = placed_so p is (placing o p s) refl more e

  so_well : (n : ℕ) (ls : List (List ℕ)) (es : List (Option (Placement M))) (s t : Sheet M) → Says o ls es → Placed o s (cards_of es) t → lines_done o n ls s ≡ well t
  so_well n [] [] s t says placed = ap well placed
  so_well n [] (e ∷ es) s t says placed = absurd says
  so_well n (l ∷ ls) [] s t says placed = absurd says
  so_well n (l ∷ ls) (None ∷ es) s t says placed =
      ap (λ r. onward (laid o (suc n) s r) (lines_done o (suc n) ls)) ((line_tells o l).so_right None says.0) ∙ so_well (suc n) ls es s t says.1 placed
  so_well n (l ∷ ls) (Some p ∷ es) s t says placed =
      ap (λ r. onward (laid o (suc n) s r) (lines_done o (suc n) ls)) ((line_tells o l).so_right (Some p) says.0)
      ∙ ap (λ a. onward (settled (suc n) s a) (lines_done o (suc n) ls)) placed.1
      ∙ so_well (suc n) ls es placed.0 t says.1 placed.2

  -- one right line more before the fault
  later : (n : ℕ) (l : List ℕ) (ls : List (List ℕ)) (s u : Sheet M) (f : Named) (t : Sheet M) (e : Option (Placement M)) → LineSays o l e
      → ((es : List (Option (Placement M))) → Placed o u (cards_of es) t → Placed o s (cards_of (e ∷ es)) t)
      → FaultAmong o ls (suc n) u f t → FaultAmong o (l ∷ ls) n s f t
  later n l ls s u f t e says placed h = record {
    before = l ∷ h.before;
    line = h.line;
    behind = h.behind;
    are = ap (λ x. l ∷ x) h.are;
    says = e ∷ h.says;
    right = (says, h.right);
    placed = placed h.says h.placed;
    number = h.number ∙ shift n (length h.before);
    wrong = h.wrong;
  }
    where
      shift : (n m : ℕ) → suc (suc n) + m ≡ suc n + suc m
      shift n m = omega arith

  -- the fault is on the first line
  here : (n : ℕ) (l : List ℕ) (ls : List (List ℕ)) (s : Sheet M) (f : Named) (t : Sheet M) → s ≡ t → f.line ≡ suc n → FaultOf o l s f → FaultAmong o (l ∷ ls) n s f t
  here n l ls s f t same at w = record {
    before = [];
    line = l;
    behind = ls;
    are = refl;
    says = [];
    right = tt;
    placed = same;
    number = at ∙ sym (add-zero (suc n));
    wrong = subst (λ u. FaultOf o l u f) same w;
  }

  ill_so : (n : ℕ) (ls : List (List ℕ)) (s : Sheet M) (f : Named) (t : Sheet M) → lines_done o n ls s ≡ ill f t → FaultAmong o ls n s f t
  ill_so n [] s f t e = not-ill f t s (sym e)
  ill_so n (l ∷ ls) s f t e = go (line_of o l) refl (λ u e. ill_so (suc n) ls u f t e) e
    where
      same_fault : (g : Named) (u : Sheet M) → ill g u ≡ ill f t → g ≡ f
      same_fault g u e = let one : Some g ≡ Some f = ap (λ x. x.fault) e in cc

      placed_so : (p : Placement M) → line_of o l ≡ right (Some p) → (a : Answer (Sheet M)) → placing o p s ≡ a → ((u : Sheet M) → lines_done o (suc n) ls u ≡ ill f t → FaultAmong o ls (suc n) u f t)
          → onward (settled (suc n) s a) (lines_done o (suc n) ls) ≡ ill f t → FaultAmong o (l ∷ ls) n s f t
      placed_so p is (granted u) at more e = later n l ls s u f t (Some p) ((line_tells o l).right_so (Some p) is) (λ es h. (u, at, h)) (more u e)
      placed_so p is (refused v) at more e =
          let g = same_fault _ s e in
          here n l ls s f t (ap (λ x. x.sheet) e) (ap (λ x. x.line) (sym g))
          (inr (p, (line_tells o l).right_so (Some p) is, at ∙ ap (λ x. refused x.told) g, ap (λ x. x.layer) (sym g), ap (λ x. x.byte) (sym g)))

      go : (r : Checked (Option (Placement M))) → line_of o l ≡ r → ((u : Sheet M) → lines_done o (suc n) ls u ≡ ill f t → FaultAmong o ls (suc n) u f t)
          → onward (laid o (suc n) s r) (lines_done o (suc n) ls) ≡ ill f t → FaultAmong o (l ∷ ls) n s f t
      go (wrong v b) is more e =
          let g = same_fault _ s e in
          here n l ls s f t (ap (λ x. x.sheet) e) (ap (λ x. x.line) (sym g))
          (inl (ap (λ x. x.layer) (sym g), subst (λ (x : Named). WrongLine o l x.told x.byte) g ((line_tells o l).wrong_so v b is)))
      go (right None) is more e = later n l ls s s f t None ((line_tells o l).right_so None is) (λ es h. h) (more s e)
      go (right (Some p)) is more e = placed_so p is (placing o p s) refl more e

  so_ill : (n : ℕ) (before : List (List ℕ)) (line : List ℕ) (behind : List (List ℕ)) (es : List (Option (Placement M))) (s : Sheet M) (f : Named) (t : Sheet M)
      → Says o before es → Placed o s (cards_of es) t → f.line ≡ suc n + length before → FaultOf o line t f → lines_done o n (before ++ (line ∷ behind)) s ≡ ill f t
  so_ill n [] line behind [] s f t says placed at (inl w) =
      let number : suc n ≡ f.line = sym (at ∙ add-zero (suc n)) in
      let lay = sym w.0 in
      ap (λ r. onward (laid o (suc n) s r) (lines_done o (suc n) behind)) ((line_tells o line).so_wrong f.told f.byte w.1)
      ∙ (λ i. ill (record { layer = lay i; told = f.told; line = number i; byte = f.byte }) (placed i))
  so_ill n [] line behind [] s f t says placed at (inr w) =
      let number : suc n ≡ f.line = sym (at ∙ add-zero (suc n)) in
      let lay = sym w.3 in
      let byte = sym w.4 in
      ap (λ r. onward (laid o (suc n) s r) (lines_done o (suc n) behind)) ((line_tells o line).so_right (Some w.0) w.1)
      ∙ ap (λ u. onward (settled (suc n) s (placing o w.0 u)) (lines_done o (suc n) behind)) placed
      ∙ ap (λ a. onward (settled (suc n) s a) (lines_done o (suc n) behind)) w.2
      ∙ (λ i. ill (record { layer = lay i; told = f.told; line = number i; byte = byte i }) (placed i))
  so_ill n [] line behind (e ∷ es) s f t says placed at w = absurd says
  so_ill n (l ∷ before) line behind [] s f t says placed at w = absurd says
  so_ill n (l ∷ before) line behind (None ∷ es) s f t says placed at w =
      ap (λ r. onward (laid o (suc n) s r) (lines_done o (suc n) (before ++ (line ∷ behind)))) ((line_tells o l).so_right None says.0)
      ∙ so_ill (suc n) before line behind es s f t says.1 placed (at ∙ shift n (length before)) w
    where
      shift : (n m : ℕ) → suc n + suc m ≡ suc (suc n) + m
      shift n m = omega arith
  so_ill n (l ∷ before) line behind (Some p ∷ es) s f t says placed at w =
      ap (λ r. onward (laid o (suc n) s r) (lines_done o (suc n) (before ++ (line ∷ behind)))) ((line_tells o l).so_right (Some p) says.0)
      ∙ ap (λ a. onward (settled (suc n) s a) (lines_done o (suc n) (before ++ (line ∷ behind)))) placed.1
      ∙ so_ill (suc n) before line behind es placed.0 f t says.1 placed.2 (at ∙ shift n (length before)) w
    where
      shift : (n m : ℕ) → suc n + suc m ≡ suc (suc n) + m
      shift n m = omega arith

  -- two ways to say what the lines are, and to place the cards, are one
  one_saying : (ls : List (List ℕ)) (es ds : List (Option (Placement M))) → Says o ls es → Says o ls ds → es ≡ ds
  one_saying [] [] [] h k = refl
  one_saying [] [] (d ∷ ds) h k = absurd k
  one_saying [] (e ∷ es) ds h k = absurd h
  one_saying (l ∷ ls) [] ds h k = absurd h
  one_saying (l ∷ ls) (e ∷ es) [] h k = absurd k
  one_saying (l ∷ ls) (e ∷ es) (d ∷ ds) h k =
      let one : right e ≡ right d = sym ((line_tells o l).so_right e h.0) ∙ (line_tells o l).so_right d k.0 in
      let same : e ≡ d = cc in
      let rest = one_saying ls es ds h.1 k.1 in
      λ i. same i ∷ rest i

  module _ (input : List ℕ) where
    abbrev lines : List (List ℕ)
    lines = parts 10 input

    follows_done : (cards : List (Placement M)) (t : Sheet M) → Follows o input cards t → lines_done o 0 lines (blank_sheet o) ≡ well t
    follows_done cards t h =
        ap (λ ls. lines_done o 0 ls (blank_sheet o)) (sym (parted_is 10 input h.lines h.parted))
        ∙ so_well 0 h.lines h.says (blank_sheet o) t h.right (subst (λ ps. Placed o (blank_sheet o) ps t) (sym h.cards_are) h.placed)

    done_follows : (t : Sheet M) → lines_done o 0 lines (blank_sheet o) ≡ well t → (cards : List (Placement M)) × Follows o input cards t
    done_follows t e =
        let h = well_so 0 lines (blank_sheet o) t e in
        (cards_of h.0, record { lines = lines; parted = parted_parts 10 input; says = h.0; right = h.1; cards_are = refl; placed = h.2 })

    same_cards : (cards cards' : List (Placement M)) (t t' : Sheet M) → Follows o input cards t → Follows o input cards' t' → (cards ≡ cards') × (t ≡ t')
    same_cards cards cards' t t' h k =
        let ls = parted_is 10 input h.lines h.parted ∙ sym (parted_is 10 input k.lines k.parted) in
        let one = one_saying k.lines h.says k.says (subst (λ l. Says o l h.says) ls h.right) k.right in (
          sym h.cards_are ∙ ap cards_of one ∙ k.cards_are,
          ap (λ x. x.sheet) (sym (follows_done cards t h) ∙ follows_done cards' t' k),
        )

    first_done : (f : Named) (t : Sheet M) → FirstFault o input f t → lines_done o 0 lines (blank_sheet o) ≡ ill f t
    first_done f t h =
        let a = h.among in
        ap (λ ls. lines_done o 0 ls (blank_sheet o)) (sym (parted_is 10 input h.lines h.parted) ∙ a.are)
        ∙ so_ill 0 a.before a.line a.behind a.says (blank_sheet o) f t a.right a.placed a.number a.wrong

    done_first : (f : Named) (t : Sheet M) → lines_done o 0 lines (blank_sheet o) ≡ ill f t → FirstFault o input f t
    done_first f t e = record { lines = lines; parted = parted_parts 10 input; among = ill_so 0 lines (blank_sheet o) f t e }

    module _ (s : Sheet M) (st : State M) (is : st ≡ cards_read o input s) where
      -- with 32 rows the lines are read onto a blank sheet
      begins : length s.rows ≡ 32 → st ≡ lines_done o 0 lines (blank_sheet o)
      begins e = is ∙ ap (λ t. begun o input s (refuse 1 (not t) (granted (blank_sheet o)))) (eq-eqb (length s.rows) 32 e)

      stops : (length s.rows ≡ 32 → ⊥) → st ≡ ill (record { layer = layer.Sheet; told = record { number = 1; words = [] }; line = 0; byte = 0 }) s
      stops ne = is ∙ ap (λ t. begun o input s (refuse 1 (not t) (granted (blank_sheet o)))) (ne_eqb (length s.rows) 32 ne)

      table : (t : Bool) → eqb (length s.rows) 32 ≡ t → st.fault ≡ None → length s.rows ≡ 32
      table true e none = eqb-true (length s.rows) 32 e
      table false e none = some_none _ (sym (ap (λ x. x.fault) (stops (eqb-false (length s.rows) 32 e))) ∙ none)

      accepts : Accepts o input (length s.rows) st.fault st.sheet
      accepts = record {
        sound = λ none.
            let e = table (eqb (length s.rows) 32) refl none in
            let whole : well st.sheet ≡ st = λ i. record { fault = sym none i; sheet = st.sheet } in
            (e, done_follows st.sheet (sym (whole ∙ begins e)));
        complete = λ e cards t h.
            let all = begins e ∙ follows_done cards t h in
            (ap (λ x. x.fault) all, ap (λ x. x.sheet) all);
        unique = same_cards;
      }

      blames : Blames o input (length s.rows) s st.fault st.sheet
      blames = record {
        table = λ ne. let all = stops ne in (ap (λ x. x.fault) all, ap (λ x. x.sheet) all);
        first = λ e f at.
            let whole : ill f st.sheet ≡ st = λ i. record { fault = sym at i; sheet = st.sheet } in
            done_first f st.sheet (sym (whole ∙ begins e));
        only = λ e f t h.
            let all = begins e ∙ first_done f t h in
            (ap (λ x. x.fault) all, ap (λ x. x.sheet) all);
      }

module _ {V M : Type 0} (o : Ops M) (mean : V → M) (input : List ℕ) (plan : Plan) (rows : List (Row V)) (st : State M) (is : st ≡ cards_read o input (meant_sheet mean (record { plan = plan; rows = rows }))) where
  pub accepts_text : Accepts o input (length rows) st.fault st.sheet
  accepts_text = subst (λ n. Accepts o input n st.fault st.sheet) (length-map rows (meant_row mean)) (accepts o input (meant_sheet mean (record { plan = plan; rows = rows })) st is)

  pub blames_text : Blames o input (length rows) (meant_sheet mean (record { plan = plan; rows = rows })) st.fault st.sheet
  blames_text =
      subst (λ n. Blames o input n (meant_sheet mean (record { plan = plan; rows = rows })) st.fault st.sheet) (length-map rows (meant_row mean))
      (blames o input (meant_sheet mean (record { plan = plan; rows = rows })) st is)
