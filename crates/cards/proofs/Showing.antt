-- The text of a number is read for what it shows, and for nothing else. Assumes nothing.
use Rattle.std.proofs.Common.{◌≡◌, ℕ, suc, ◌+◌, ◌<◌, ◌≤◌, Bool, true, false, cond, ◌&&◌, eqb, ltb, leb, ◌⊎◌, List, [], ◌∷◌, ◌++◌, length, take, drop, Some, None, Option, sym, refl, ap, ◌∙◌, subst, inl, inr, arith, take-append-drop}
use Rattle.std.proofs.lemmas.List.{take_at, length-append}
use Rattle.std.proofs.lemmas.Bool.{false≢true, and_parts, ltb-true, leb-true, lt-ltb, le-leb, eqb-true, eq-eqb, ne_eqb, cond-true}
use Rattle.cards.specs.declared.numeral.Numeral.{Numeral}
use Rattle.cards.specs.Numerals.{is_digit, all_digits, read_digits, plain, over, slash, value_digits, ratio, negated, signed}
use Rattle.cards.specs.Parts.{reach, further, parts}
use Rattle.cards.specs.Shapes.{Lacks, Digits, Writes, Ratio, Shows}
use Rattle.cards.proofs.Figures.{ratio-whole}
use Rattle.cards.proofs.Pieces.{Ends, Found, first_piece}
use Rattle.cards.proofs.Shaping.{nonempty}

pub some_none : {X A : Type 0} (x : X) → ◌≡◌ {A = Option X} (Some x) None → A
some_none x e = let z : ◌≡◌ {A = ℕ} 0 1 = cc in absurd (omega arith)

digits_from : (bs : List ℕ) → all_digits bs ≡ true → Digits bs
digits_from [] e = tt
digits_from (b ∷ bs) e =
    let two = and_parts (is_digit b) (all_digits bs) e in
    let ends = and_parts (leb 48 b) (leb b 57) two.0 in
    (leb-true 48 b ends.0, leb-true b 57 ends.1, digits_from bs two.1)

digits_all : (bs : List ℕ) → Digits bs → all_digits bs ≡ true
digits_all [] h = refl
digits_all (b ∷ bs) h = λ i. (le-leb 48 b h.0 i && le-leb b 57 h.1 i) && digits_all bs h.2 i

digits_lack : (s : ℕ) (bs : List ℕ) → s < 48 → Digits bs → Lacks s bs
digits_lack s [] lt h = tt
digits_lack s (b ∷ bs) lt h = (apart h.0, digits_lack s bs lt h.2)
  where
    apart : 48 ≤ b → b ≡ s → ⊥
    apart low e = omega arith

-- digits

abbrev fit : ℕ → List ℕ → Bool
fit most bs = ltb 0 (length bs) && (leb (length bs) most && all_digits bs)

pub plain_writes : (most : ℕ) (bs : List ℕ) (n : ℕ) → plain most bs ≡ Some n → Writes most bs n
plain_writes most bs n e = go (fit most bs) refl e
  where
    go : (t : Bool) → fit most bs ≡ t → cond t (Some (read_digits 0 bs)) None ≡ Some n → Writes most bs n
    go true is e =
        let one = and_parts (ltb 0 (length bs)) (leb (length bs) most && all_digits bs) is in
        let two = and_parts (leb (length bs) most) (all_digits bs) one.1 in
        let value : read_digits 0 bs ≡ n = cc in
        record { some = ltb-true 0 (length bs) one.0; few = leb-true (length bs) most two.0; digits = digits_from bs two.1; is = value }
    go false is e = some_none n (sym e)

pub writes_plain : (most : ℕ) (bs : List ℕ) (n : ℕ) → Writes most bs n → plain most bs ≡ Some n
writes_plain most bs n h =
    let all : fit most bs ≡ true = λ i. lt-ltb 0 (length bs) h.some i && (le-leb (length bs) most h.few i && digits_all bs h.digits i) in
    cond-true (fit most bs) (Some (read_digits 0 bs)) None all ∙ ap Some h.is

-- ratios

reach-all : (s : ℕ) (w : List ℕ) → Lacks s w → reach s w ≡ length w
reach-all s [] free = refl
reach-all s (b ∷ w) free = ap (λ t. further t (reach s w)) (ne_eqb b s free.0) ∙ ap suc (reach-all s w free.1)

reach-word : (s : ℕ) (w bs : List ℕ) → Lacks s w → reach s (w ++ (s ∷ bs)) ≡ length w
reach-word s [] bs free = ap (λ t. further t (reach s bs)) (eq-eqb s s refl)
reach-word s (b ∷ w) bs free = ap (λ t. further t (reach s (w ++ (s ∷ bs)))) (ne_eqb b s free.0) ∙ ap suc (reach-word s w bs free.1)

pub ratio-shown : (bs : List ℕ) (n d : ℕ) → Ratio bs n d → ratio bs ≡ Some (record { minus = false; top = n; under = d })
ratio-shown bs n d (inl h) =
    let free = digits_lack slash bs (omega arith) h.0.digits in
    sym (ratio-whole bs (reach-all slash bs free)) ∙ ap (λ x. over x (Some 1)) (writes_plain value_digits bs n h.0) ∙ ap (λ k. Some (record { minus = false; top = n; under = k })) (sym h.1)
ratio-shown bs n d (inr h) =
    let t = h.top in
    let u = h.under in
    let r : reach slash (t ++ (slash ∷ u)) ≡ length t = reach-word slash t u (digits_lack slash t (omega arith) h.above.digits) in
    let size : length (t ++ (slash ∷ u)) ≡ length t + suc (length u) = length-append t (slash ∷ u) in
    ap ratio h.text
    ∙ cond-true (ltb (reach slash (t ++ (slash ∷ u))) (length (t ++ (slash ∷ u)))) _ _ (lt-ltb _ _ (omega (arith, r, size)))
    ∙ ap (λ k. over (plain value_digits (take k (t ++ (slash ∷ u)))) (plain value_digits (drop (suc k) (t ++ (slash ∷ u))))) r
    ∙ (λ i. over (plain value_digits (take_at t (slash ∷ u) (length t) refl i)) (plain value_digits (past t u i)))
    ∙ (λ i. over (writes_plain value_digits t n h.above i) (writes_plain value_digits u d h.below i))
  where
    past : (t u : List ℕ) → drop (suc (length t)) (t ++ (slash ∷ u)) ≡ u
    past [] u = refl
    past (b ∷ t) u = past t u

over_some : (a b : Option ℕ) (m : Numeral) → over a b ≡ Some m → (a ≡ Some m.top) × (b ≡ Some m.under) × (m.minus ≡ false)
over_some None b m e = some_none m (sym e)
over_some (Some n) None m e = some_none m (sym e)
over_some (Some n) (Some d) m e =
    let same : record { minus = false; top = n; under = d } ≡ m = cc in
    (ap (λ x. Some x.top) same, ap (λ x. Some x.under) same, ap (λ x. x.minus) (sym same))

pub ratio_shows : (bs : List ℕ) (m : Numeral) → ratio bs ≡ Some m → (m.minus ≡ false) × Ratio bs m.top m.under
ratio_shows bs m e = go (first_piece slash bs)
  where
    go : Ends bs (reach slash bs) (parts slash bs) ⊎ Found slash bs (reach slash bs) (parts slash bs) → (m.minus ≡ false) × Ratio bs m.top m.under
    go (inl h) =
        let parts = over_some (plain value_digits bs) (Some 1) m (ratio-whole bs h.whole ∙ e) in
        let one : m.under ≡ 1 = let b = parts.1 in cc in
        (parts.2, inl (plain_writes value_digits bs m.top parts.0, one))
    go (inr h) =
        let r = reach slash bs in
        let cut = cond-true (ltb r (length bs)) (over (plain value_digits (take r bs)) (plain value_digits (drop (suc r) bs))) (over (plain value_digits bs) (Some 1)) (lt-ltb _ _ h.below) in
        let parts = over_some (plain value_digits (take r bs)) (plain value_digits (drop (suc r) bs)) m (sym cut ∙ e) in (
          parts.2,
          inr (record {
            top = take r bs;
            under = drop (suc r) bs;
            text = sym (take-append-drop r bs) ∙ ap (λ l. take r bs ++ l) h.at;
            above = plain_writes value_digits (take r bs) m.top parts.0;
            below = plain_writes value_digits (drop (suc r) bs) m.under parts.1;
          }),
        )

-- signs

negated_some : (x : Option Numeral) (m : Numeral) → negated x ≡ Some m → (n : Numeral) × (x ≡ Some n) × (n.top ≡ m.top) × (n.under ≡ m.under) × (m.minus ≡ true)
negated_some None m e = some_none m (sym e)
negated_some (Some n) m e =
    let same : record { minus = true; top = n.top; under = n.under } ≡ m = cc in
    (n, refl, ap (λ x. x.top) same, ap (λ x. x.under) same, ap (λ x. x.minus) (sym same))

-- a ratio does not begin with a minus
no_minus : (bs : List ℕ) (n d : ℕ) → Ratio (45 ∷ bs) n d → ⊥
no_minus bs n d (inl h) = let low = h.0.digits.0 in omega arith
no_minus bs n d (inr h) = go h.top h.text h.above
  where
    go : (t : List ℕ) → 45 ∷ bs ≡ t ++ (slash ∷ h.under) → Writes value_digits t n → ⊥
    go [] e w = let some = w.some in omega arith
    go (b ∷ t) e w = let same : 45 ≡ b = cc in let low = w.digits.0 in omega arith

no_text : (n d : ℕ) → Ratio [] n d → ⊥
no_text n d (inl h) = let some = h.0.some in omega arith
no_text n d (inr h) = go h.top h.text
  where
    go : (t : List ℕ) → [] ≡ t ++ (slash ∷ h.under) → ⊥
    go [] e = nonempty slash h.under (sym e)
    go (b ∷ t) e = nonempty b (t ++ (slash ∷ h.under)) (sym e)

pub signed_shows : (bs : List ℕ) (m : Numeral) → signed bs ≡ Some m → Shows true bs m
signed_shows [] m e = some_none m (sym e)
signed_shows (b ∷ bs) m e = go (eqb b 45) refl e
  where
    go : (t : Bool) → eqb b 45 ≡ t → cond t (negated (ratio bs)) (ratio (b ∷ bs)) ≡ Some m → Shows true (b ∷ bs) m
    go true is e =
        let h = negated_some (ratio bs) m e in
        let shown = (ratio_shows bs h.0 h.1).1 in
        inr (
          refl,
          record {
            rest = bs;
            text = ap (λ x. x ∷ bs) (eqb-true b 45 is);
            minus = h.4;
            ratio = subst (λ (x : ℕ × ℕ). Ratio bs x.0 x.1) (λ i. (h.2 i, h.3 i)) shown;
          },
        )
    go false is e = inl (ratio_shows (b ∷ bs) m e)

ratio_is : (bs : List ℕ) (m : Numeral) → m.minus ≡ false → Ratio bs m.top m.under → ratio bs ≡ Some m
ratio_is bs m plus h = ratio-shown bs m.top m.under h ∙ (let same = sym plus in λ i. Some (record { minus = same i; top = m.top; under = m.under }))

unsigned : (bs : List ℕ) (m : Numeral) → m.minus ≡ false → Ratio bs m.top m.under → signed bs ≡ Some m
unsigned [] m plus h = absurd (no_text _ _ h)
unsigned (b ∷ bs) m plus h = go (eqb b 45) refl
  where
    go : (t : Bool) → eqb b 45 ≡ t → cond t (negated (ratio bs)) (ratio (b ∷ bs)) ≡ Some m
    go true is = absurd (no_minus bs m.top m.under (subst (λ x. Ratio (x ∷ bs) m.top m.under) (eqb-true b 45 is) h))
    go false is = ratio_is (b ∷ bs) m plus h

pub shows_signed : (bs : List ℕ) (m : Numeral) → Shows true bs m → signed bs ≡ Some m
shows_signed bs m (inl h) = unsigned bs m h.0 h.1
shows_signed bs m (inr h) =
    let same = sym h.1.minus in
    ap signed h.1.text ∙ ap negated (ratio-shown h.1.rest m.top m.under h.1.ratio) ∙ (λ i. Some (record { minus = same i; top = m.top; under = m.under }))

-- what a field shows, where a sign may stand or not

pub shown_shows : (sign : Bool) (bs : List ℕ) (m : Numeral) → cond sign (signed bs) (ratio bs) ≡ Some m → Shows sign bs m
shown_shows true bs m e = signed_shows bs m e
shown_shows false bs m e = inl (ratio_shows bs m e)

pub shows_shown : (sign : Bool) (bs : List ℕ) (m : Numeral) → Shows sign bs m → cond sign (signed bs) (ratio bs) ≡ Some m
shows_shown true bs m h = shows_signed bs m h
shows_shown false bs m (inl h) = ratio_is bs m h.0 h.1
shows_shown false bs m (inr h) = absurd (false≢true h.0)

-- nothing shows nothing
pub no_shown : (sign : Bool) (m : Numeral) → Shows sign [] m → ⊥
no_shown true m h = some_none m (sym (shows_shown true [] m h))
no_shown false m h = some_none m (sym (shows_shown false [] m h))
