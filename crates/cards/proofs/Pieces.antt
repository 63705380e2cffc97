-- The first piece of a text, and the first field of a line. Assumes nothing.
use Rattle.std.proofs.Common.{◌≡◌, ℕ, suc, ◌+◌, ◌-◌, ◌<◌, ◌≤◌, Bool, true, false, cond, not, eqb, leb, ltb, ◌⊎◌, List, [], ◌∷◌, length, get_or, take, drop, Some, None, sym, refl, ap, ◌∙◌, subst, inl, inr, add-zero, arith, length-drop}
use Rattle.std.proofs.lemmas.List.Recursion.{is_position_or_len}
use Rattle.std.proofs.lemmas.List.Sums.{prefix_len-le-length}
use Rattle.std.proofs.Math.Numerals.{one-add}
use Rattle.std.specs.List.{position, position_or_len, slice_range}
use Rattle.std.specs.Option.{unwrap_or}
use Rattle.std.proofs.lemmas.List.{take_rest, drop-drop, drop_all, length-take-le, take_all, get_or-drop}
use Rattle.std.proofs.lemmas.Bool.{ltb-false, eqb-true, ne_eqb, le-leb, lt-leb, cond-true, cond-false}
use Rattle.cards.specs.Fields.{worded, words_from, missing, First}
use Rattle.cards.specs.Lines.{lines_from}
use Rattle.cards.specs.Parts.{reach, further, parts, before, onto}

-- the separator does not occur: all is one piece
pub record Ends (bs : List ℕ) (r : ℕ) (ps : List (List ℕ)) : Type 0 where
  pub whole : r ≡ length bs
  pub piece : ps ≡ bs ∷ []

-- the separator stands at r
pub record Found (s : ℕ) (bs : List ℕ) (r : ℕ) (ps : List (List ℕ)) : Type 0 where
  pub below : r < length bs
  pub piece : ps ≡ take r bs ∷ parts s (drop (suc r) bs)
  pub at : drop r bs ≡ s ∷ drop (suc r) bs

pub first_piece : (s : ℕ) (bs : List ℕ) → Ends bs (reach s bs) (parts s bs) ⊎ Found s bs (reach s bs) (parts s bs)
unfolding parts
first_piece s [] = inl (record { whole = refl; piece = refl })
first_piece s (b ∷ bs) = go (eqb b s) refl (first_piece s bs)
  where
    go : (t : Bool) → eqb b s ≡ t → Ends bs (reach s bs) (parts s bs) ⊎ Found s bs (reach s bs) (parts s bs)
        → Ends (b ∷ bs) (further t (reach s bs)) (before t b (parts s bs)) ⊎ Found s (b ∷ bs) (further t (reach s bs)) (before t b (parts s bs))
    go true e h = inr (record { below = omega arith; piece = refl; at = ap (λ x. x ∷ bs) (eqb-true b s e) })
    go false e (inl h) = inl (record { whole = ap suc h.whole; piece = ap (onto b) h.piece })
    go false e (inr h) = inr (record { below = omega (arith, h.below); piece = ap (onto b) h.piece; at = h.at })

-- what stands before the first separator is what `position` finds, or all of it
reach_position : (s : ℕ) (bs : List ℕ) → reach s bs ≡ position_or_len (λ b. eqb b s) bs
reach_position s bs = is_position_or_len (reach s) (λ b. eqb b s) refl (λ b bs. step (eqb b s) (reach s bs)) bs
  where
    step : (t : Bool) (n : ℕ) → further t n ≡ cond t 0 (1 + n)
    step true n = refl
    step false n = grind arith

-- the index of the first element that passes, or the length
found_or_all : {X : Type 0} (p : X → Bool) (xs : List X) → unwrap_or (position p xs) (length xs) ≡ position_or_len p xs
found_or_all p xs = go (ltb (position_or_len p xs) (length xs)) refl
  where
    go : (t : Bool) → ltb (position_or_len p xs) (length xs) ≡ t → unwrap_or (cond t (Some (position_or_len p xs)) None) (length xs) ≡ position_or_len p xs
    go true e = refl
    go false e = omega (arith, ltb-false (position_or_len p xs) (length xs) e, prefix_len-le-length (λ x. not (p x)) xs)

pub reach_found : (s : ℕ) (bs : List ℕ) → unwrap_or (position (λ b. eqb b s) bs) (length bs) ≡ reach s bs
reach_found s bs = found_or_all (λ b. eqb b s) bs ∙ sym (reach_position s bs)

-- how many spaces stand before the fields
abbrev gap : List ℕ → ℕ
gap bs = position_or_len (λ b. not (eqb b 32)) bs

-- they change nothing
words_past : (at : ℕ) (bs : List ℕ) → words_from (at + gap bs) (drop (gap bs) bs) ≡ words_from at bs
unfolding parts
words_past at [] = ap (λ n. words_from n []) (add-zero at)
words_past at (b ∷ bs) = go (eqb b 32) refl (words_past (suc at) bs)
  where
    further_by : (n m : ℕ) → n + (1 + m) ≡ suc n + m
    further_by n m = omega arith

    go : (t : Bool) → eqb b 32 ≡ t → words_from (suc at + gap bs) (drop (gap bs) bs) ≡ words_from (suc at) bs
        → words_from (at + cond (not (not t)) (1 + gap bs) 0) (drop (cond (not (not t)) (1 + gap bs) 0) (b ∷ bs)) ≡ words_from at (b ∷ bs)
    go true e h =
        (λ i. words_from (further_by at (gap bs) i) (drop (one-add (gap bs) i) (b ∷ bs))) ∙ h ∙ ap (λ x. words_from at (x ∷ bs)) (sym (eqb-true b 32 e))
    go false e h = ap (λ n. words_from n (b ∷ bs)) (add-zero at)

pub gap_past : (line : List ℕ) (from n : ℕ) → n ≡ unwrap_or (position (λ b. not (eqb b 32)) (drop from line)) (length (drop from line))
    → words_from (from + n) (drop (from + n) line) ≡ words_from from (drop from line)
gap_past line from n e =
    let is = e ∙ found_or_all (λ b. not (eqb b 32)) (drop from line) in
    ap (words_from (from + n)) (sym (drop-drop n from line)) ∙ ap (λ k. words_from (from + k) (drop k (drop from line))) is ∙ words_past from (drop from line)

past_field : (line : List ℕ) (from at : ℕ) (rest : List ℕ) → rest ≡ drop at line → at ≤ length line
    → worded at (parts 32 rest) ≡ words_from from (drop from line) → (at < length line → get_or rest 0 0 ≡ 32 → ⊥)
    → First line from (record { place = at; text = take (reach 32 rest) rest })
unfolding parts
past_field line from at [] e within same stops =
    let long : 0 ≡ length line - at = ap length e ∙ length-drop at line in
    let end : at ≡ length line = omega arith in
    let none : drop (at + 0) line ≡ [] = ap (λ n. drop n line) (add-zero at) ∙ sym e in
    record {
      is = ap (λ n. record { place = n; text = [] }) end ∙ ap (λ ws. get_or ws 0 (missing line)) same;
      more = ap (λ bs. words_from (at + 0) bs) none ∙ ap (drop 1) same;
      within = omega arith;
    }
past_field line from at (b ∷ bs) e within same stops =
    let long : suc (length bs) ≡ length line - at = ap length e ∙ length-drop at line in
    let apart : eqb b 32 ≡ false = ne_eqb b 32 (stops (omega arith)) in
    let all : before false b (parts 32 bs) ≡ parts 32 (b ∷ bs) = ap (λ t. before t b (parts 32 bs)) (sym apart) in
    subst (λ t. First line from (record { place = at; text = take (further t (reach 32 bs)) (b ∷ bs) })) (sym apart)
    (go long (ap (worded at) all ∙ same) (first_piece 32 bs))
  where
    Rest : List ℕ → List (List ℕ) → Type 0
    Rest w ps = words_from (at + suc (length w)) (drop (at + suc (length w)) line) ≡ worded (suc (at + suc (length w))) ps

    whole : (w : List ℕ) (ps : List (List ℕ)) → worded at (onto b (w ∷ ps)) ≡ words_from from (drop from line) → Rest w ps → at + suc (length w) ≤ length line
        → First line from (record { place = at; text = b ∷ w })
    whole w ps all rest within = record {
      is = ap (λ ws. get_or ws 0 (missing line)) all;
      more = rest ∙ ap (drop 1) all;
      within = within;
    }

    go : suc (length bs) ≡ length line - at → worded at (onto b (parts 32 bs)) ≡ words_from from (drop from line)
        → Ends bs (reach 32 bs) (parts 32 bs) ⊎ Found 32 bs (reach 32 bs) (parts 32 bs)
        → First line from (record { place = at; text = b ∷ take (reach 32 bs) bs })
    go long all (inl h) =
        let end : at + suc (length bs) ≡ length line = omega arith in
        subst (λ w. First line from (record { place = at; text = b ∷ w })) (sym (take_all _ bs (omega (arith, h.whole))))
        (whole bs [] (ap (λ ps. worded at (onto b ps)) (sym h.piece) ∙ all)
        (ap (words_from _) (drop_all _ line (omega arith)))
        (omega arith))
    go long all (inr h) =
        let r = reach 32 bs in
        let w = take r bs in
        let size : length w ≡ r = length-take-le r bs (omega (arith, h.below)) in
        let past : drop (at + suc (length w)) line ≡ 32 ∷ drop (suc r) bs =
        sym (drop-drop (suc (length w)) at line) ∙ ap (drop (suc (length w))) (sym e) ∙ ap (λ n. drop n bs) size ∙ h.at in
        whole w (parts 32 (drop (suc r) bs)) (ap (λ ps. worded at (onto b ps)) (sym h.piece) ∙ all)
        (ap (words_from _) past)
        (omega (arith, h.below))

-- the first field from a place on stands at the first byte from there that is no space
pub first_field : (line : List ℕ) (from at : ℕ) → at ≤ length line → words_from at (drop at line) ≡ words_from from (drop from line)
    → (at < length line → get_or line at 0 ≡ 32 → ⊥) → First line from (record { place = at; text = take (reach 32 (drop at line)) (drop at line) })
first_field line from at within same stops =
    past_field line from at (drop at line) refl within same
    (λ lt is. stops lt (ap (λ n. get_or line n 0) (sym (add-zero at)) ∙ sym (get_or-drop at line 0 0) ∙ is))

-- the next line is the next piece
lines_more : (input : List ℕ) (at r : ℕ) → at ≤ length input → r ≡ reach 10 (drop at input)
    → lines_from input at ≡ take r (drop at input) ∷ lines_from input (at + (r + 1))
lines_more input at r within is = first ∙ subst (λ n. parts 10 (drop at input) ≡ take n (drop at input) ∷ lines_from input (at + (n + 1))) (sym is) (go (first_piece 10 (drop at input)))
  where
    first : lines_from input at ≡ parts 10 (drop at input)
    first = cond-true (leb at (length input)) _ _ (le-leb _ _ within)

    size : length (drop at input) ≡ length input - at
    size = length-drop at input

    go : Ends (drop at input) (reach 10 (drop at input)) (parts 10 (drop at input)) ⊎ Found 10 (drop at input) (reach 10 (drop at input)) (parts 10 (drop at input))
        → parts 10 (drop at input) ≡ take (reach 10 (drop at input)) (drop at input) ∷ lines_from input (at + (reach 10 (drop at input) + 1))
    go (inl h) =
        let past : length input < at + (reach 10 (drop at input) + 1) = omega (arith, h.whole, size) in
        let none = cond-false (leb (at + (reach 10 (drop at input) + 1)) (length input)) (parts 10 (drop (at + (reach 10 (drop at input) + 1)) input)) [] (lt-leb _ _ past) in
        let all = take_all (reach 10 (drop at input)) (drop at input) (omega (arith, h.whole)) in
        h.piece ∙ sym (λ i. all i ∷ none i)
    go (inr h) =
        let r = reach 10 (drop at input) in
        let before : at + (r + 1) ≤ length input = omega (arith, h.below, size) in
        let on : at + suc r ≡ at + (r + 1) = omega arith in
        let rest : drop (suc r) (drop at input) ≡ drop (at + (r + 1)) input = drop-drop (suc r) at input ∙ ap (λ n. drop n input) on in
        h.piece ∙ ap (λ bs. take r (drop at input) ∷ parts 10 bs) rest
        ∙ ap (λ ls. take r (drop at input) ∷ ls) (sym (cond-true (leb (at + (r + 1)) (length input)) _ _ (le-leb _ _ before)))

-- the same, of what stands from there on
pub next_line : (input rest : List ℕ) (at r : ℕ) → at ≤ length input → rest ≡ slice_range input at (length input) → r ≡ reach 10 rest
    → lines_from input at ≡ take r rest ∷ lines_from input (at + (r + 1))
next_line input rest at r within is reached =
    let all = is ∙ take_rest input at in
    lines_more input at r within (reached ∙ ap (reach 10) all) ∙ ap (λ bs. take r bs ∷ lines_from input (at + (r + 1))) (sym all)
