-- Reading digits one by one. Assumes nothing.
use Rattle.std.proofs.Common.{◌≡◌, ℕ, suc, ◌+◌, ◌-◌, ◌*◌, ◌^◌, ◌<◌, ◌≤◌, Bool, true, false, cond, ◌&&◌, eqb, ltb, leb, List, [], ◌∷◌, length, take, drop, Some, None, Option, sym, refl, ap, ◌∙◌, mul-le-mul_right, mul_assoc, add-one, arith}
use native.Mathlib.Nat.{pow-succ', pow-le-pow_right}
use Rattle.std.proofs.lemmas.List.{take_rest}
use Rattle.std.proofs.lemmas.Bool.{both_ways, and_parts, leb-true, lt-ltb, le-ltb, cond-true, cond-false}
use Rattle.sheet.specs.declared.kind.Kind.{Kind}
use Rattle.cards.specs.declared.numeral.Numeral.{Numeral}
use Rattle.cards.specs.declared.token.Token.{Token}
use Rattle.cards.specs.declared.token.Token.TheVariants.{Number, Node, Value, Start}
use Rattle.cards.specs.Cards.{right, wanted, byte_of}
use Rattle.cards.specs.Numerals.{is_digit, all_digits, read_digits, plain, over, slash, value_digits, ratio, number_digits, figured, word_of, is_whole}
use Rattle.std.proofs.lemmas.List.Quantifiers.{position-Some}
use Rattle.std.specs.List.{position}
use Rattle.std.specs.Option.{unwrap_or}
use Rattle.cards.specs.Parts.{reach}
use Rattle.cards.proofs.Pieces.{reach_found}

-- the digits before place i are read, and write n
pub record Sofar (text : List ℕ) (i n : ℕ) : Type 0 where
  pub small : n < 10 ^ i
  pub digits : all_digits (drop i text) ≡ all_digits text
  pub value : read_digits n (drop i text) ≡ read_digits 0 text

-- digits write less than a power of ten
digits_below : (n : ℕ) (bs : List ℕ) → all_digits bs ≡ true → read_digits n bs < (n + 1) * 10 ^ length bs
digits_below n [] all = omega arith
digits_below n (b ∷ bs) all =
    let parts = and_parts (is_digit b) (all_digits bs) all in
    let high = leb-true b 57 (and_parts (leb 48 b) (leb b 57) parts.0).1 in
    let less : n * 10 + (b - 48) + 1 ≤ (n + 1) * 10 = omega arith in
    let room : 10 ^ suc (length bs) ≡ 10 * 10 ^ length bs = pow-succ' 10 (length bs) in
    let grown : (n * 10 + (b - 48) + 1) * 10 ^ length bs ≤ (n + 1) * 10 * 10 ^ length bs = mul-le-mul_right (10 ^ length bs) less in
    let same : (n + 1) * 10 * 10 ^ length bs ≡ (n + 1) * (10 ^ suc (length bs)) = mul_assoc (n + 1) 10 (10 ^ length bs) ∙ ap (λ k. (n + 1) * k) (sym room) in
    omega (arith, digits_below (n * 10 + (b - 48)) bs parts.1, grown, same)

pub plain-lt : (most : ℕ) (text : List ℕ) (n : ℕ) → plain most text ≡ Some n → n < 10 ^ most
plain-lt most text n e = go (ltb 0 (length text) && (leb (length text) most && all_digits text)) refl e
  where
    go : (t : Bool) → (ltb 0 (length text) && (leb (length text) most && all_digits text)) ≡ t → cond t (Some (read_digits 0 text)) None ≡ Some n → n < 10 ^ most
    go true is e =
        let two = and_parts (leb (length text) most) (all_digits text) (and_parts (ltb 0 (length text)) _ is).1 in
        let few = leb-true (length text) most two.0 in
        let value : read_digits 0 text ≡ n = cc in
        let small : read_digits 0 text < (0 + 1) * 10 ^ length text = digits_below 0 text two.1 in
        let room : 10 ^ length text ≤ 10 ^ most = pow-le-pow_right (omega arith) few in
        omega arith
    go false is e = let z : ◌≡◌ {A = ℕ} 0 1 = cc in absurd (omega arith)

-- a text without a slash is one number
pub ratio-whole : (text : List ℕ) → reach slash text ≡ length text → over (plain value_digits text) (Some 1) ≡ ratio text
ratio-whole text e = sym (cond-false (ltb (reach slash text) (length text)) _ _ (le-ltb _ _ (omega (arith, e))))

pub ratio_whole : (text : List ℕ) → None ≡ position (λ b. eqb b slash) text → over (plain value_digits text) (Some 1) ≡ ratio text
ratio_whole text none = ratio-whole text (sym (reach_found slash text) ∙ ap (λ o. unwrap_or o (length text)) (sym none))

-- and one with a slash is one number over another
pub ratio_parted : (text : List ℕ) (n : ℕ) → Some n ≡ position (λ b. eqb b slash) text
    → over (plain value_digits (take n text)) (plain value_digits (take (length text - (n + 1)) (drop (n + 1) text))) ≡ ratio text
ratio_parted text n some =
    let e : n ≡ reach slash text = ap (λ o. unwrap_or o (length text)) some ∙ reach_found slash text in
    let lt : n < length text = (position-Some (λ b. eqb b slash) text n 0 (sym some)).0 in
    let rest : take (length text - (n + 1)) (drop (n + 1) text) ≡ drop (suc n) text = take_rest text (n + 1) ∙ ap (λ k. drop k text) (add-one n) in
    ap (λ u. over (plain value_digits (take n text)) (plain value_digits u)) rest
    ∙ ap (λ k. over (plain value_digits (take k text)) (plain value_digits (drop (suc k) text))) e
    ∙ sym (cond-true (ltb (reach slash text) (length text)) _ _ (lt-ltb _ _ (omega (arith, e))))

-- the number of a number or a node is below a million
pub count_small : (k : Kind) (t : Token) (n : Numeral) → is_whole t ≡ true → right n ≡ wanted 22 (byte_of (word_of t)) (figured k t) → n.top < 1000000
count_small k t n is e = go t is e
  where
    whole_small : (byte : ℕ) (text : List ℕ) (p : Option ℕ) → plain number_digits text ≡ p → right n ≡ wanted 22 byte (over p (Some 1)) → n.top < 1000000
    whole_small byte text None at e = let z : ◌≡◌ {A = ℕ} 0 1 = cc in absurd (omega arith)
    whole_small byte text (Some m) at e =
        let same : n ≡ record { minus = false; top = m; under = 1 } = cc in
        let top : n.top ≡ m = ap (λ x. x.top) same in
        omega (arith, plain-lt number_digits text m at)

    go : (t : Token) → is_whole t ≡ true → right n ≡ wanted 22 (byte_of (word_of t)) (figured k t) → n.top < 1000000
    go (Number f) is e = whole_small _ f.text.now _ refl e
    go (Node f) is e = whole_small _ f.text.now _ refl e
    go (Value f) is e = absurd (both_ways true (sym is) refl)
    go (Start f) is e = absurd (both_ways true (sym is) refl)
