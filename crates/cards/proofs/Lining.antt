-- A line is skipped, a card, or wrong, exactly as it is read. Assumes nothing.
use Rattle.std.proofs.Common.{◌≡◌, ℕ, suc, Bool, true, false, cond, not, ◌&&◌, eqb, List, [], ◌∷◌, Some, None, Option, sym, refl, ap, ◌∙◌, subst, inl, inr, arith}
use Rattle.std.proofs.lemmas.Bool.{true≢false, false≢true, eqb-true, eqb-false}
use Rattle.arithmetic.specs.Ops.{Ops}
use Rattle.sheet.specs.declared.kind.Kind.{Kind}
use Rattle.sheet.specs.declared.kind.Kind.TheVariants.{Resistor, Inductor, Capacitor, VoltageSource, CurrentSource}
use Rattle.sheet.specs.declared.placement.Placement.{Placement}
use Rattle.sheet.specs.Kinds.{mark, is_source, has_start, kind_lettered}
use Rattle.sheet.specs.Refusals.{Told}
use Rattle.cards.specs.Cards.{Checked, right, wrong, then, byte_of, is_empty, over_of, card_of, lettered, opened, line_of}
use Rattle.cards.specs.Fields.{Word, Cutting, words, missing, word_end}
use Rattle.cards.specs.Following.{LineSays}
use Rattle.cards.specs.Numerals.{number_digits}
use Rattle.cards.specs.Rules.{Means, Starts, IsCard, Skipped, FirstWrong, card_checks, asked, WrongFor, WrongLine}
use Rattle.cards.specs.Shapes.{Laid, Writes}
use Rattle.cards.proofs.Shaping.{nonempty, laid_is, laid-words}
use Rattle.cards.proofs.Showing.{some_none, no_shown}
use Rattle.cards.proofs.Telling.{Tells, right_wrong, right_same, wrong_told, wrong_byte, as_fails, from_fails, StartIs, start_given, Parts, card_tells}

-- letters

letter_kind : (k : Kind) → kind_lettered (mark k).letter ≡ Some k
letter_kind Resistor = refl
letter_kind Inductor = refl
letter_kind Capacitor = refl
letter_kind VoltageSource = refl
letter_kind CurrentSource = refl

no_star : (k : Kind) → (mark k).letter ≡ 42 → ⊥
no_star Resistor e = omega arith
no_star Inductor e = omega arith
no_star Capacitor e = omega arith
no_star VoltageSource e = omega arith
no_star CurrentSource e = omega arith

kind_letter : (b : ℕ) (k : Kind) → kind_lettered b ≡ Some k → (mark k).letter ≡ b
kind_letter b k e = go (eqb 82 b) (eqb 76 b) (eqb 67 b) (eqb 86 b) (eqb 73 b) refl refl refl refl refl e
  where
    is : (j : Kind) (n : ℕ) → n ≡ (mark j).letter → eqb n b ≡ true → ◌≡◌ {A = Option Kind} (Some j) (Some k) → (mark k).letter ≡ b
    is j n at yes-so e = let same : j ≡ k = cc in ap (λ x. (mark x).letter) (sym same) ∙ sym at ∙ eqb-true n b yes-so

    go : (r l c v i : Bool) → eqb 82 b ≡ r → eqb 76 b ≡ l → eqb 67 b ≡ c → eqb 86 b ≡ v → eqb 73 b ≡ i
        → cond r (Some Resistor) (cond l (Some Inductor) (cond c (Some Capacitor) (cond v (Some VoltageSource) (cond i (Some CurrentSource) None)))) ≡ Some k → (mark k).letter ≡ b
    go true l c v i pr pl pc pv pi e = is Resistor 82 refl pr e
    go false true c v i pr pl pc pv pi e = is Inductor 76 refl pl e
    go false false true v i pr pl pc pv pi e = is Capacitor 67 refl pc e
    go false false false true i pr pl pc pv pi e = is VoltageSource 86 refl pv e
    go false false false false true pr pl pc pv pi e = is CurrentSource 73 refl pi e
    go false false false false false pr pl pc pv pi e = some_none k (sym e)

-- each field holds something

EachSome : List Word → Type 0
EachSome [] = Unit {0}
EachSome (f ∷ fs) = (f.text ≡ [] → ⊥) × EachSome fs

laid_some : (at : ℕ) (bs : List ℕ) (fs : List Word) → Laid at bs fs → EachSome fs
unfolding EachSome
laid_some at bs [] h = tt
laid_some at bs (f ∷ fs) h = (h.some, laid_some (word_end f) h.rest fs h.others)

not-empty : (text : List ℕ) → (text ≡ [] → ⊥) → is_empty text ≡ false
not-empty [] some = absurd (some refl)
not-empty (b ∷ bs) some = refl

no_digits : (most n : ℕ) → Writes most [] n → ⊥
no_digits most n h = let some = h.some in omega arith

-- the card of a line whose first field is a letter and a number
module _ {M : Type 0} (o : Ops M) (line : List ℕ) (k : Kind) (number : Word) (f : Word) (p : Placement M) where
  abbrev cuts : List Word → Cutting
  cuts others = asked line (f ∷ others)

  -- what the rule of starts says of the fields behind the value
  started_from : (more : List Word) (b c d : Word) → EachSome more → StartIs o (start_given k (cuts (b ∷ c ∷ d ∷ more))) (cuts (b ∷ c ∷ d ∷ more)).fifth p.start → (over_of k (cuts (b ∷ c ∷ d ∷ more))).text ≡ [] → Starts o k more p.start
  unfolding EachSome
  started_from [] b c d some starts over = go (has_start k) starts
    where
      go : (t : Bool) → StartIs o (t && not true) (missing line) p.start → p.start ≡ o.nought
      go true s = s
      go false s = s
  started_from (w ∷ []) b c d some starts over = go (has_start k) refl (is_empty w.text) (not-empty w.text some.0) starts over
    where
      go : (t : Bool) → has_start k ≡ t → (e : Bool) → e ≡ false → StartIs o (t && not e) w p.start → (cond t (missing line) w).text ≡ [] → (has_start k ≡ true) × Means o true w.text p.start
      go true is true e s over = absurd (true≢false e)
      go true is false e s over = (is, s)
      go false is e at s over = absurd (some.0 over)
  started_from (w ∷ v ∷ ws) b c d some starts over = go (has_start k) over
    where
      go : (t : Bool) → (cond t v w).text ≡ [] → ⊥
      go true over = some.1.0 over
      go false over = some.0 over

  started_to : (more : List Word) (b c d : Word) → EachSome more → Starts o k more p.start → StartIs o (start_given k (cuts (b ∷ c ∷ d ∷ more))) (cuts (b ∷ c ∷ d ∷ more)).fifth p.start × ((over_of k (cuts (b ∷ c ∷ d ∷ more))).text ≡ [])
  unfolding EachSome
  started_to [] b c d some starts = go (has_start k)
    where
      go : (t : Bool) → StartIs o (t && not true) (missing line) p.start × ((cond t (missing line) (missing line)).text ≡ [])
      go true = (starts, refl)
      go false = (starts, refl)
  started_to (w ∷ []) b c d some starts = go (has_start k) starts.0 (is_empty w.text) (not-empty w.text some.0)
    where
      go : (t : Bool) → t ≡ true → (e : Bool) → e ≡ false → StartIs o (t && not e) w p.start × ((cond t (missing line) w).text ≡ [])
      go true is true e = absurd (true≢false e)
      go true is false e = (starts.1, refl)
      go false is e at = absurd (false≢true is)
  started_to (w ∷ v ∷ ws) b c d some starts = absurd starts

  pub card-from : (others : List Word) (digits : List ℕ) → Laid 0 line (f ∷ others) → f.text ≡ (mark k).letter ∷ digits → number.text ≡ digits → Parts o k number (cuts others) p → IsCard o line p
  unfolding EachSome
  card-from [] digits laid letter is h = absurd (no_digits _ _ h.from)
  card-from (b ∷ []) digits laid letter is h = absurd (no_digits _ _ h.to)
  card-from (b ∷ c ∷ []) digits laid letter is h = absurd (no_shown (is_source k) _ h.valued.shows)
  card-from (b ∷ c ∷ d ∷ more) digits laid letter is h = record {
    first = f;
    tail = b;
    head = c;
    value = d;
    more = more;
    fields = laid;
    kind = k;
    number = digits;
    letter = letter;
    numbered = subst (λ t. Writes number_digits t p.number) is h.numbered;
    kinded = sym h.kinded;
    from = h.from;
    to = h.to;
    valued = h.valued;
    started = started_from more b c d (laid_some 0 line (f ∷ b ∷ c ∷ d ∷ more) laid).1.1.1.1 h.started h.none_over;
  }

-- and the other way round
card_to : {M : Type 0} (o : Ops M) (line : List ℕ) (p : Placement M) (h : IsCard o line p)
    → Parts o h.kind (record { place = suc h.first.place; text = h.number }) (asked line (h.first ∷ h.tail ∷ h.head ∷ h.value ∷ h.more)) p
unfolding EachSome
card_to o line p h =
    let s = started_to o line h.kind (record { place = suc h.first.place; text = h.number }) h.first p h.more h.tail h.head h.value
    (laid_some 0 line (h.first ∷ h.tail ∷ h.head ∷ h.value ∷ h.more) h.fields).1.1.1.1 h.started in
    record {
      numbered = h.numbered;
      kinded = sym h.kinded;
      from = h.from;
      to = h.to;
      valued = h.valued;
      started = s.0;
      none_over = s.1;
    }

-- one line

module _ {M : Type 0} (o : Ops M) (line : List ℕ) where
  -- fields are those of the line
  same_fields : (fs gs : List Word) → fs ≡ words line → Laid 0 line gs → gs ≡ fs
  same_fields fs gs is laid = laid_is 0 line gs laid ∙ sym is

  no_fields : [] ≡ words line → Laid 0 line [] → Tells (right None) (LineSays o line) (WrongLine o line)
  no_fields is laid = record {
    right_so = λ e p. subst (LineSays o line) (right_same None e p) (inl laid);
    so_right = elim [ None ↦ λ s. refl | Some p ↦ λ h. absurd (nonempty _ _ (same_fields [] (h.first ∷ h.tail ∷ h.head ∷ h.value ∷ h.more) is h.fields)) ];
    wrong_so = λ t b e. right_wrong None t b e;
    so_wrong = λ t b w. absurd (nonempty _ _ (same_fields [] (w.first ∷ w.others) is w.fields));
  }

  module _ (f : Word) (others : List Word) (is : f ∷ others ≡ words line) (laid : Laid 0 line (f ∷ others)) (b : ℕ) (number : List ℕ) (text : f.text ≡ b ∷ number) where
    -- another reading of the same line has the same first field and letter
    abbrev Again : Word → List Word → ℕ → List ℕ → Type 0
    Again g gs c digits = (g ≡ f) × (gs ≡ others) × (c ≡ b) × (digits ≡ number)

    again : (g : Word) (gs : List Word) (c : ℕ) (digits : List ℕ) → Laid 0 line (g ∷ gs) → g.text ≡ c ∷ digits → Again g gs c digits
    again g gs c digits l e =
        let same = same_fields (f ∷ others) (g ∷ gs) is l in
        let head : g ≡ f = cc in
        let tail : gs ≡ others = cc in
        let texts : c ∷ digits ≡ b ∷ number = sym e ∙ ap (λ w. w.text) head ∙ text in
        (head, tail, cc, cc)

    starred : b ≡ 42 → Tells (right None) (LineSays o line) (WrongLine o line)
    starred star = record {
      right_so = λ e p. subst (LineSays o line) (right_same None e p) (inr (record { first = f; rest = number; others = others; fields = laid; star = text ∙ ap (λ x. x ∷ number) star }));
      so_right = elim [
        | None ↦ λ s. refl
        | Some p ↦ λ h. absurd (no_star h.kind ((again h.first (h.tail ∷ h.head ∷ h.value ∷ h.more) (mark h.kind).letter h.number h.fields h.letter).2 ∙ star))
      ];
      wrong_so = λ t c e. right_wrong None t c e;
      so_wrong = λ t c w. absurd (w.plain ((again w.first w.others w.b w.number w.fields w.text).2 ∙ star));
    }

    module _ (plain : b ≡ 42 → ⊥) where
      not_skipped : Skipped line → ⊥
      not_skipped (inl h) = nonempty _ _ (sym (same_fields (f ∷ others) [] is h))
      not_skipped (inr h) = plain (sym (again h.first h.others 42 h.rest h.fields h.star).2)

      wrong_here : (t : Told) (byte : ℕ) → WrongLine o line t byte → WrongFor o f b number (asked line (f ∷ others)) t byte
      wrong_here t byte w =
          let same = again w.first w.others w.b w.number w.fields w.text in
          subst (λ (x : Word × List Word × ℕ × List ℕ). WrongFor o x.0 x.2 x.3 (asked line (x.0 ∷ x.1)) t byte)
          (λ i. (same.0 i, same.1 i, same.2 i, same.3 i)) w.wrong

      as_wrong : (t : Told) (byte : ℕ) → WrongFor o f b number (asked line (f ∷ others)) t byte → WrongLine o line t byte
      as_wrong t byte w = record { first = f; others = others; fields = laid; b = b; number = number; text = text; plain = plain; wrong = w }

      no_letter : kind_lettered b ≡ None → Tells (wrong (record { number = 21; words = [] }) (byte_of f)) (LineSays o line) (WrongLine o line)
      no_letter none = record {
        right_so = λ e p. right_wrong e _ _ (sym p);
        so_right = elim [
          | None ↦ λ s. absurd (not_skipped s)
          | Some p ↦ λ h. absurd (never (h.kind, (again h.first (h.tail ∷ h.head ∷ h.value ∷ h.more) (mark h.kind).letter h.number h.fields h.letter).2))
        ];
        wrong_so = λ t c e. as_wrong t c (inl (as_fails 21 (byte_of f) _ never t c e));
        so_wrong = λ t c w. elim (wrong_here t c w) [ inl h ↦ from_fails 21 (byte_of f) _ t c h | inr h ↦ absurd (never (h.0, h.1)) ];
      }
        where
          never : (k : Kind) × ((mark k).letter ≡ b) → ⊥
          never h = some_none h.0 (sym (letter_kind h.0) ∙ ap kind_lettered h.1 ∙ none)

      module _ (k : Kind) (letter : kind_lettered b ≡ Some k) where
        abbrev given : Word
        given = record { place = suc f.place; text = number }

        is_letter : (mark k).letter ≡ b
        is_letter = kind_letter b k letter

        -- no other kind has the letter
        this_kind : (j : Kind) → (mark j).letter ≡ b → j ≡ k
        this_kind j e = let one : Some j ≡ Some k = sym (letter_kind j) ∙ ap kind_lettered e ∙ letter in cc

        to_parts : (p : Placement M) → IsCard o line p → Parts o k given (asked line (f ∷ others)) p
        to_parts p h =
            let same = again h.first (h.tail ∷ h.head ∷ h.value ∷ h.more) (mark h.kind).letter h.number h.fields h.letter in
            subst (λ (x : Word × List Word × Kind × List ℕ). Parts o x.2 (record { place = suc x.0.place; text = x.3 }) (asked line (x.0 ∷ x.1)) p)
            (λ i. (same.0 i, same.1 i, this_kind h.kind same.2 i, same.3 i)) (card_to o line p h)

        of_card : (r : Checked (Placement M)) → Tells r (Parts o k given (asked line (f ∷ others))) (FirstWrong (card_checks o k given (asked line (f ∷ others))))
            → Tells (then r (λ p. right (Some p))) (LineSays o line) (WrongLine o line)
        of_card (right p) h = record {
          right_so = λ e q. subst (LineSays o line) (right_same (Some p) e q)
              (card-from o line k given f p others number laid (text ∙ ap (λ x. x ∷ number) (sym is_letter)) refl (h.right_so p refl));
          so_right = elim [
            | None ↦ λ s. absurd (not_skipped s)
            | Some q ↦ λ c. ap (λ x. right (Some x)) (right_same p q (h.so_right q (to_parts q c)))
          ];
          wrong_so = λ t c e. right_wrong (Some p) t c e;
          so_wrong = λ t c w. elim (wrong_here t c w) [
            | inl l ↦ absurd (l.not_so (k, is_letter))
            | inr l ↦ right_wrong p t c (h.so_wrong t c (subst (λ j. FirstWrong (card_checks o j given (asked line (f ∷ others))) t c) (this_kind l.0 l.1) l.2))
          ];
        }
        of_card (wrong u c) h = record {
          right_so = λ e q. right_wrong e _ _ (sym q);
          so_right = elim [
            | None ↦ λ s. absurd (not_skipped s)
            | Some q ↦ λ l. right_wrong q _ _ (sym (h.so_right q (to_parts q l)))
          ];
          wrong_so = λ t d e. as_wrong t d (inr (k, is_letter, h.wrong_so t d (λ i. wrong (wrong_told u t c d e i) (wrong_byte u t c d e i))));
          so_wrong = λ t d w. elim (wrong_here t d w) [
            | inl l ↦ absurd (l.not_so (k, is_letter))
            | inr l ↦
                let e = h.so_wrong t d (subst (λ j. FirstWrong (card_checks o j given (asked line (f ∷ others))) t d) (this_kind l.0 l.1) l.2) in
                λ i. wrong (wrong_told u t c d e i) (wrong_byte u t c d e i)
          ];
        }

      by_letter : (x : Option Kind) → kind_lettered b ≡ x → Tells (lettered o x (byte_of f) number (asked line (f ∷ others))) (LineSays o line) (WrongLine o line)
      by_letter None e = no_letter e
      by_letter (Some k) e = of_card k e (card_of o k (given k e) (asked line (f ∷ others))) (card_tells o k (given k e) (asked line (f ∷ others)))

    by_star : (t : Bool) → eqb b 42 ≡ t → Tells (cond t (right None) (lettered o (kind_lettered b) (byte_of f) number (asked line (f ∷ others)))) (LineSays o line) (WrongLine o line)
    by_star true e = starred (eqb-true b 42 e)
    by_star false e = by_letter (eqb-false b 42 e) (kind_lettered b) refl

  by_text : (f : Word) (others : List Word) → f ∷ others ≡ words line → Laid 0 line (f ∷ others) → (text : List ℕ) → f.text ≡ text → Tells (opened o text (asked line (f ∷ others))) (LineSays o line) (WrongLine o line)
  by_text f others is laid [] text = absurd (laid.some text)
  by_text f others is laid (b ∷ number) text = by_star f others is laid b number text (eqb b 42) refl

  by_fields : (fs : List Word) → fs ≡ words line → Laid 0 line fs → Tells (opened o (asked line fs).first.text (asked line fs)) (LineSays o line) (WrongLine o line)
  by_fields [] is laid = no_fields is laid
  by_fields (f ∷ others) is laid = by_text f others is laid f.text refl

  pub line_tells : Tells (line_of o line) (LineSays o line) (WrongLine o line)
  line_tells = by_fields (words line) refl (laid-words line)
