-- Bits put in one after another. Assumes nothing.
use Rattle.std.proofs.Common.{◌≡◌, ℕ, zero, suc, ◌+◌, ◌-◌, ◌*◌, ◌/◌, ◌%◌, ◌^◌, ◌<◌, ◌≤◌, List, [], ◌∷◌, ◌++◌, length, get_or, take, drop, set, replicate, ℤ, pos, sym, refl, ap, ◌∙◌, add-zero, arith}
use lib.Bits.{bit_and, bit_or}
use Rattle.std.proofs.Math.Nat.{pow-succ', div-div-eq-div-mul}
use Rattle.std.proofs.lemmas.List.{append_assoc, append-nil, length-set, length-take-le, at_drop_more, get_or_append_left, set-append_left, take-append-drop}
use Rattle.std.proofs.lemmas.Nat.Bits.{shr_and_one}
use Rattle.std.specs.Int.{w32, reverse_bits, reverse_bits_onto}
use Rattle.slips.specs.Bits.{put_bit, put_bits, high, low, zeroed}
use Rattle.slips.specs.Entries.{code_of, entries_bits}
use Rattle.slips.specs.Slips.{row_bits}

pub word_turn : (area : List ℕ) (at count i w : ℕ) → i < count
    → put_bits (put_bit area (at + i) (bit_and (w / 2 ^ (count - 1 - i)) 1)) (at + (i + 1)) (high (count - (i + 1)) w) ≡ put_bits area (at + i) (high (count - i) w)
unfolding put_bits high
word_turn area at count i w h =
    let e : count - i ≡ suc (count - (i + 1)) = omega arith in
    let k : count - 1 - i ≡ count - (i + 1) = omega arith in
    let p : at + (i + 1) ≡ at + i + 1 = omega arith in
    rw (shr_and_one w (count - 1 - i), k, p, e)

-- the bits of a number turned around
high_more : (n a b : ℕ) → b < 2 → high (suc n) (a * 2 + b) ≡ high n a ++ b ∷ []
unfolding high
high_more zero a b h = ap (λ (x : ℕ). x ∷ []) (omega arith)
high_more (suc n) a b h =
    let half : (a * 2 + b) / 2 ≡ a = omega arith in
    let e : (a * 2 + b) / 2 ^ suc n ≡ a / 2 ^ n =
    ap (λ (x : ℕ). (a * 2 + b) / x) (pow-succ' 2 n) ∙ sym (div-div-eq-div-mul (a * 2 + b) 2 (2 ^ n)) ∙ ap (λ (x : ℕ). x / 2 ^ n) half
    in
    λ i. e i % 2 ∷ high_more n a b h i

high_onto : (k j w a : ℕ) → high (j + k) (reverse_bits_onto k w a) ≡ high j a ++ low k w
unfolding low reverse_bits_onto
high_onto zero j w a = ap (λ (n : ℕ). high n a) (add-zero j) ∙ sym (append-nil (high j a))
high_onto (suc k) j w a =
    ap (λ (n : ℕ). high n (reverse_bits_onto k (w / 2) (a * 2 + w % 2))) (omega arith)
    ∙ high_onto k (suc j) (w / 2) (a * 2 + w % 2)
    ∙ ap (λ (xs : List ℕ). xs ++ low k (w / 2)) (high_more j a (w % 2) (omega arith))
    ∙ append_assoc (high j a) (w % 2 ∷ []) (low k (w / 2))

pub high_reversed : (w : ℕ) → high 32 (reverse_bits w32 w) ≡ low 32 w
unfolding high
high_reversed w = high_onto 32 0 w 0

pub put_bits-append : (area : List ℕ) (at : ℕ) (xs ys : List ℕ) → put_bits area at (xs ++ ys) ≡ put_bits (put_bits area at xs) (at + length xs) ys
unfolding put_bits
put_bits-append area at [] ys = rw add-zero
put_bits-append area at (x ∷ xs) ys =
    put_bits-append (put_bit area at x) (at + 1) xs ys
    ∙ ap (λ (n : ℕ). put_bits (put_bits (put_bit area at x) (at + 1) xs) n ys) (omega arith)

pub length-put_bits : (area : List ℕ) (at : ℕ) (bs : List ℕ) → length (put_bits area at bs) ≡ length area
unfolding put_bits
length-put_bits area at [] = refl
length-put_bits area at (b ∷ bs) = length-put_bits (put_bit area at b) (at + 1) bs ∙ length-set area _ _

pub length_high : (n w : ℕ) → length (high n w) ≡ n
unfolding high
length_high zero w = refl
length_high (suc n) w = ap suc (length_high n w)

pub length-low : (n w : ℕ) → length (low n w) ≡ n
unfolding low
length-low zero w = refl
length-low (suc n) w = ap suc (length-low n (w / 2))

pub entries_turn : (area : List ℕ) (at : ℕ) (es : List ℤ) (i : ℕ) → i < length es
    → put_bits (put_bits area (at + 2 * i) (high 2 (code_of (get_or es i (pos 0))))) (at + 2 * (i + 1)) (entries_bits (drop (i + 1) es))
    ≡ put_bits area (at + 2 * i) (entries_bits (drop i es))
unfolding entries_bits
entries_turn area at es i h =
    let e = high 2 (code_of (get_or es i (pos 0))) in
    ap (λ (n : ℕ). put_bits (put_bits area (at + 2 * i) e) n (entries_bits (drop (i + 1) es))) (omega (arith, length_high 2 (code_of (get_or es i (pos 0)))))
    ∙ sym (put_bits-append area (at + 2 * i) e (entries_bits (drop (i + 1) es)))
    ∙ sym (at_drop_more (λ (xs : List ℤ). put_bits area (at + 2 * i) (entries_bits xs)) es i (pos 0) h)

-- an area longer than the bits reach
pub put_bits-front : (xs ys : List ℕ) (at : ℕ) (bs : List ℕ) → at + length bs ≤ 8 * length xs → put_bits (xs ++ ys) at bs ≡ put_bits xs at bs ++ ys
unfolding put_bits
put_bits-front xs ys at [] h = refl
put_bits-front xs ys at (b ∷ bs) h =
    let k : at / 8 < length xs = omega arith in
    let e : put_bit (xs ++ ys) at b ≡ put_bit xs at b ++ ys =
    ap (λ (n : ℕ). set (xs ++ ys) (at / 8) (bit_or n (b * 2 ^ (7 - at % 8)))) (get_or_append_left xs ys 0 (at / 8) k) ∙ set-append_left xs ys (at / 8) _ k
    in
    ap (λ (zs : List ℕ). put_bits zs (at + 1) bs) e ∙ put_bits-front (put_bit xs at b) ys (at + 1) bs (omega (arith, length-set {A = ℕ}))

pub put_bits_first : (area : List ℕ) (at : ℕ) (bs : List ℕ) → 280 ≤ length area → at + length bs ≤ 2240 → put_bits (take 280 area) at bs ++ drop 280 area ≡ put_bits area at bs
put_bits_first area at bs w h =
    sym (put_bits-front (take 280 area) (drop 280 area) at bs (omega (arith, length-take-le 280 area w)))
    ∙ ap (λ (xs : List ℕ). put_bits xs at bs) (take-append-drop 280 area)

pub row_put : (area : List ℕ) (at number : ℕ) (es : List ℤ) → put_bits (put_bits area at (high 5 number)) (at + 5) (entries_bits es) ≡ put_bits area at (row_bits number es)
unfolding row_bits
row_put area at number es =
    ap (λ (n : ℕ). put_bits (put_bits area at (high 5 number)) (at + n) (entries_bits es)) (sym (length_high 5 number))
    ∙ sym (put_bits-append area at (high 5 number) (entries_bits es))

-- ---- the area with its first bytes zero
pub length-zeroed : (n : ℕ) (area : List ℕ) → length (zeroed n area) ≡ length area
unfolding zeroed
length-zeroed zero area = refl
length-zeroed (suc n) [] = refl
length-zeroed (suc n) (x ∷ area) = ap suc (length-zeroed n area)

pub zeroed_is : (n : ℕ) (area : List ℕ) → n ≤ length area → replicate n 0 ++ drop n area ≡ zeroed n area
unfolding zeroed
zeroed_is zero area h = refl
zeroed_is (suc n) [] h = absurd (omega arith)
zeroed_is (suc n) (x ∷ area) h = ap (λ (ys : List ℕ). 0 ∷ ys) (zeroed_is n area (omega arith))
