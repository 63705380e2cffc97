-- An area that holds packed bits, as more bits are put in after them. Assumes nothing.
use Rattle.std.proofs.Common.{◌≡◌, ℕ, zero, suc, ◌+◌, ◌-◌, ◌*◌, ◌/◌, ◌%◌, ◌^◌, ◌<◌, ◌≤◌, ◌≢◌, List, [], ◌∷◌, ◌++◌, length, get_or, sym, refl, ap, ◌∙◌, subst, append_assoc, add-zero, add_assoc, add-suc, mod-lt, mul_assoc, pow-suc, arith, shl_lt}
use native.Mathlib.Decide.{ℕ_discrete}
use lib.Bits.{bit_or, or_shifted}
use Rattle.std.proofs.lemmas.List.{append-nil, length-set, get_or_append_left, get_or_past, get_or_push, get_or-set_same, get_or-set_other, length_push}
use Rattle.slips.specs.Bits.{put_bit, put_bits, high, low, word_at, byte_at, zeroed}
use Rattle.slips.specs.Writing.{Packed}

-- ---- the number that bits make
pub word_at_same : (xs ys : List ℕ) (at n : ℕ) → ((i : ℕ) → i < n → get_or xs (at + i) 0 ≡ get_or ys (at + i) 0) → word_at xs at n ≡ word_at ys at n
unfolding word_at
word_at_same xs ys at zero h = refl
word_at_same xs ys at (suc n) h =
    ap (λ (w : ℕ). w * 2 + get_or xs (at + n) 0) (word_at_same xs ys at n (λ i l. h i (omega arith)))
    ∙ ap (λ (g : ℕ). word_at ys at n * 2 + g) (h n (omega arith))

pub word_at_past : (bs : List ℕ) (at n : ℕ) → length bs ≤ at → word_at bs at n ≡ 0
unfolding word_at
word_at_past bs at zero h = refl
word_at_past bs at (suc n) h =
    ap (λ (w : ℕ). w * 2 + get_or bs (at + n) 0) (word_at_past bs at n h) ∙ ap (λ (g : ℕ). 0 * 2 + g) (get_or_past bs (at + n) 0 (omega arith))

regroup : (w p v g : ℕ) → (w * p + v) * 2 + g ≡ w * (p * 2) + (v * 2 + g)
regroup w p v g = let e = mul_assoc w p 2 in omega arith

pub word_at_split : (bs : List ℕ) (at n m : ℕ) → word_at bs at (n + m) ≡ word_at bs at n * 2 ^ m + word_at bs (at + n) m
unfolding word_at
word_at_split bs at n zero = ap (word_at bs at) (add-zero n) ∙ omega arith
word_at_split bs at n (suc m) =
    ap (word_at bs at) (add-suc n m)
    ∙ ap (λ (w : ℕ). w * 2 + get_or bs (at + (n + m)) 0) (word_at_split bs at n m)
    ∙ regroup (word_at bs at n) (2 ^ m) (word_at bs (at + n) m) (get_or bs (at + (n + m)) 0)
    ∙ ap (λ (p : ℕ). word_at bs at n * p + (word_at bs (at + n) m * 2 + get_or bs (at + (n + m)) 0)) (sym (pow-suc 2 m))
    ∙ ap (λ (k : ℕ). word_at bs at n * 2 ^ suc m + (word_at bs (at + n) m * 2 + get_or bs k 0)) (sym (add_assoc at n m))

pub word_at-one : (bs : List ℕ) (at : ℕ) → word_at bs at 1 ≡ get_or bs at 0
unfolding word_at
word_at-one bs at = ap (λ (k : ℕ). 0 * 2 + get_or bs k 0) (add-zero at) ∙ omega arith

pub word_at-first : (bs : List ℕ) (at m : ℕ) → word_at bs at (1 + m) ≡ get_or bs at 0 * 2 ^ m + word_at bs (at + 1) m
word_at-first bs at m = word_at_split bs at 1 m ∙ ap (λ (w : ℕ). w * 2 ^ m + word_at bs (at + 1) m) (word_at-one bs at)

-- ---- bits are 0 or 1
abbrev pub Small : List ℕ → Type 0
Small [] = Unit {0}
Small (b ∷ bs) = (b < 2) × Small bs

pub small_append : (xs ys : List ℕ) → Small xs → Small ys → Small (xs ++ ys)
small_append [] ys p q = q
small_append (x ∷ xs) ys p q = (p.0, small_append xs ys p.1 q)

pub small_high : (n w : ℕ) → Small (high n w)
unfolding high
small_high zero w = tt
small_high (suc n) w = (mod-lt (w / 2 ^ n) (omega arith), small_high n w)

pub small_low : (n w : ℕ) → Small (low n w)
unfolding low
small_low zero w = tt
small_low (suc n) w = (mod-lt w (omega arith), small_low n (w / 2))

-- ---- one more bit
push_elsewhere : (bs : List ℕ) (b j : ℕ) → j ≢ length bs → get_or (bs ++ b ∷ []) j 0 ≡ get_or bs j 0
push_elsewhere bs b j ne = go (native.Mathlib.Decide.dec_lt j (length bs))
  where
    go : Dec (j < length bs) → get_or (bs ++ b ∷ []) j 0 ≡ get_or bs j 0
    go (yes h) = get_or_append_left bs (b ∷ []) 0 j h
    go (no h) =
        let l : length bs < j = omega arith in
        get_or_past (bs ++ b ∷ []) j 0 (omega (arith, length_push bs b)) ∙ sym (get_or_past bs j 0 (omega arith))

module _ (bs : List ℕ) (b at : ℕ) (long : length bs ≡ at) (bit : b < 2) where
  other_byte : (k : ℕ) → k ≢ at / 8 → byte_at bs k ≡ byte_at (bs ++ b ∷ []) k
  other_byte k ne = word_at_same bs (bs ++ b ∷ []) (8 * k) 8 (λ i h. sym (push_elsewhere bs b (8 * k + i) (omega arith)))

  -- the byte of the new bit: what stands above it, the bit, and zeros
  module _ (i : ℕ) (is : at % 8 ≡ i) where
    up : ℕ
    up = word_at bs (8 * (at / 8)) i

    byte_before : byte_at bs (at / 8) ≡ up * 2 ^ (8 - i)
    unfolding up
    byte_before =
        ap (word_at bs (8 * (at / 8))) (omega arith)
        ∙ word_at_split bs (8 * (at / 8)) i (8 - i)
        ∙ ap (λ (w : ℕ). up * 2 ^ (8 - i) + w) (word_at_past bs (8 * (at / 8) + i) (8 - i) (omega arith))
        ∙ omega arith

    tail : word_at (bs ++ b ∷ []) (8 * (at / 8) + i) (8 - i) ≡ b * 2 ^ (7 - i)
    tail =
        ap (λ (k : ℕ). word_at (bs ++ b ∷ []) k (8 - i)) (omega arith)
        ∙ ap (word_at (bs ++ b ∷ []) at) (omega arith)
        ∙ word_at-first (bs ++ b ∷ []) at (7 - i)
        ∙ ap (λ (w : ℕ). get_or (bs ++ b ∷ []) at 0 * 2 ^ (7 - i) + w) (word_at_past (bs ++ b ∷ []) (at + 1) (7 - i) (omega (arith, length_push bs b)))
        ∙ add-zero _
        ∙ ap (λ (g : ℕ). g * 2 ^ (7 - i)) (get_or_push bs b 0 at long)

    byte_after : byte_at (bs ++ b ∷ []) (at / 8) ≡ up * 2 ^ (8 - i) + b * 2 ^ (7 - i)
    unfolding up
    byte_after =
        ap (word_at (bs ++ b ∷ []) (8 * (at / 8))) (omega arith)
        ∙ word_at_split (bs ++ b ∷ []) (8 * (at / 8)) i (8 - i)
        ∙ ap (λ (w : ℕ). w * 2 ^ (8 - i) + word_at (bs ++ b ∷ []) (8 * (at / 8) + i) (8 - i))
        (word_at_same (bs ++ b ∷ []) bs (8 * (at / 8)) i (λ j h. push_elsewhere bs b (8 * (at / 8) + j) (omega arith)))
        ∙ ap (λ (w : ℕ). up * 2 ^ (8 - i) + w) tail

    fits_below : b * 2 ^ (7 - i) < 2 ^ (8 - i)
    fits_below = subst (λ (n : ℕ). b * 2 ^ (7 - i) < 2 ^ n) (omega arith) (shl_lt 1 (7 - i) bit)

    byte_or : bit_or (byte_at bs (at / 8)) (b * 2 ^ (7 - i)) ≡ byte_at (bs ++ b ∷ []) (at / 8)
    byte_or =
        ap (λ (w : ℕ). bit_or w (b * 2 ^ (7 - i))) byte_before
        ∙ or_shifted up (8 - i) (b * 2 ^ (7 - i)) fits_below
        ∙ sym byte_after

  pub packed_bit : (area : List ℕ) → at < 2240 → 280 ≤ length area → Packed bs area → Packed (bs ++ b ∷ []) (put_bit area at b)
  packed_bit area within room p k h = go (ℕ_discrete k (at / 8))
    where
      go : Dec (k ≡ at / 8) → get_or (put_bit area at b) k 0 ≡ byte_at (bs ++ b ∷ []) k
      go (yes e) =
          ap (λ (j : ℕ). get_or (put_bit area at b) j 0) e
          ∙ get_or-set_same area (at / 8) _ 0 (omega arith)
          ∙ ap (λ (w : ℕ). bit_or w (b * 2 ^ (7 - at % 8))) (p (at / 8) (omega arith))
          ∙ byte_or (at % 8) refl
          ∙ ap (byte_at (bs ++ b ∷ [])) (sym e)
      go (no ne) = get_or-set_other area (at / 8) k _ 0 ne ∙ p k h ∙ other_byte k ne

pub packed_bits : (new old area : List ℕ) (at : ℕ) → Small new → length old ≡ at → at + length new ≤ 2240 → 280 ≤ length area → Packed old area → Packed (old ++ new) (put_bits area at new)
unfolding put_bits
packed_bits [] old area at s e w r p = subst (λ (bs : List ℕ). Packed bs area) (sym (append-nil old)) p
packed_bits (b ∷ new) old area at s e w r p =
    subst (λ (bs : List ℕ). Packed bs (put_bits (put_bit area at b) (at + 1) new)) (append_assoc old (b ∷ []) new)
    (packed_bits new (old ++ b ∷ []) (put_bit area at b) (at + 1) s.1 (length_push old b ∙ ap (λ (n : ℕ). n + 1) e) (omega arith)
    (subst (λ (n : ℕ). 280 ≤ n) (sym (length-set area _ _)) r)
    (packed_bit old b at e s.0 area (omega arith) r p))

-- ---- an area of zeros
pub zeroed-below : (n : ℕ) (area : List ℕ) (k : ℕ) → k < n → get_or (zeroed n area) k 0 ≡ 0
unfolding zeroed
zeroed-below zero area k h = absurd (omega arith)
zeroed-below (suc n) [] k h = refl
zeroed-below (suc n) (x ∷ area) zero h = refl
zeroed-below (suc n) (x ∷ area) (suc k) h = zeroed-below n area k (omega arith)

pub zeroed_past : (n : ℕ) (area : List ℕ) (k : ℕ) → n ≤ k → get_or (zeroed n area) k 0 ≡ get_or area k 0
unfolding zeroed
zeroed_past zero area k h = refl
zeroed_past (suc n) [] k h = refl
zeroed_past (suc n) (x ∷ area) zero h = absurd (omega arith)
zeroed_past (suc n) (x ∷ area) (suc k) h = zeroed_past n area k (omega arith)

pub packed_none : (area : List ℕ) → Packed [] (zeroed 280 area)
packed_none area k h = zeroed-below 280 area k h ∙ sym (word_at_past [] (8 * k) 8 (omega arith))

-- bytes past those that the bits reach stay
pub past_bits : (bs area : List ℕ) (at : ℕ) → at + length bs ≤ 2240 → (k : ℕ) → 280 ≤ k → get_or (put_bits area at bs) k 0 ≡ get_or area k 0
unfolding put_bits
past_bits [] area at w k h = refl
past_bits (b ∷ bs) area at w k h = past_bits bs (put_bit area at b) (at + 1) (omega arith) k h ∙ get_or-set_other area (at / 8) k _ 0 (omega arith)
