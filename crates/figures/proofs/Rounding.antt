-- The reading that a float has, from the code's tests on the rounded float. Assumes nothing.
use Rattle.std.proofs.Common.{◌≡◌, ℕ, ◌+◌, ◌-◌, ◌*◌, ◌/◌, ◌^◌, ◌<◌, ◌≤◌, min, Bool, true, false, cond, T, pos, neg_ℤ, sym, refl, ap, ◌∙◌, subst, true≢false, mod-lt, mul_assoc, div-add-mod', mul-one, mul-div_cancel, mul_left_comm, arith, lt-ltb, le-leb}
use native.Mathlib.Decide.{dec_le}
use borrow.Author.Tests.{lt-leb}
use lib.Ieee.{Float, nan, inf, fin, binary64, up, down, round, neg, lt, le, to_signed}
use lib.Ieee.Back.{round_whole}
use lib.Ieee.Exact.{HasValue}
use lib.Ieee.Fits.{down_pos}
use lib.Ieee.Order.{round_mono}
use Rattle.std.specs.Float.{round_with, float_with_sign}
use Rattle.std.specs.Float.Order.{lt_at, lt_irrefl, lt_of_lt_of_le, le_trans, not_above_negative}
use Rattle.std.proofs.num.Values.{neg-round}
use Rattle.sheet.specs.Refusals.{granted, refuse}
use Rattle.figures.specs.Readings.{nearest_whole, Nearest, signed, out_of_range, in_range, reading_of, Reads}

-- ---- the rule as two bounds
pub nearest_is : (a c : ℕ) → 0 < c → Nearest a c (nearest_whole a c)
nearest_is a c h =
    let q = (2 * a + c) / (2 * c) in
    let d = div-add-mod' (2 * a + c) (2 * c) in
    let p : 0 < 2 * c = omega arith in
    let m = mod-lt (2 * a + c) p in
    let e : q * (2 * c) ≡ 2 * (q * c) = mul_left_comm q 2 c in
    let f : 2 * q * c ≡ 2 * (q * c) = mul_assoc 2 q c in
    record { least = omega arith; most = omega arith }

pub reads_is : (x : Float) → Reads x (reading_of x)
unfolding Reads reading_of
reads_is nan = refl
reads_is (inf s) = refl
reads_is (fin s m e) = (nearest_whole (m * up e) (down e), nearest_is (m * up e) (down e) (down_pos e), refl)

-- ---- 10 ^ 9, and floats from there on
abbrev pub billion : Float
billion = fin false 1953125 (pos 9)

refuted : (b : Bool) → (T b → ⊥) → b ≡ false
refuted true h = absurd (h tt)
refuted false h = refl

floor_of : T (le (fin false 1 (pos 29)) billion)
unfolding le
floor_of = tt

big : (x : Float) → T (le billion x) → lt (float_with_sign false x) billion ≡ false
unfolding float_with_sign le
big nan h = absurd h
big (inf true) h = absurd h
big (inf false) h = refl
big (fin false m e) h = refuted (lt (fin false m e) billion) (λ l. lt_irrefl (fin false m e) (lt_of_lt_of_le (fin false m e) billion (fin false m e) l h))
big (fin true m e) h = absurd (not_above_negative 29 m e (le_trans (fin false 1 (pos 29)) billion (fin true m e) floor_of h))

neg_size : (x : Float) → float_with_sign false (neg x) ≡ float_with_sign false x
unfolding float_with_sign neg
neg_size nan = refl
neg_size (inf s) = refl
neg_size (fin s m e) = refl

billion_is : round binary64 false 1_000_000_000 1 ≡ billion
unfolding round
billion_is = refl

beyond : (n : ℕ) → 1_000_000_000 ≤ n → T (le billion (round binary64 false n 1))
beyond n h = subst (λ (x : Float). T (le x (round binary64 false n 1))) billion_is (round_mono binary64 1_000_000_000 1 n 1 (omega arith) (omega arith) (omega arith))

far : (s : Bool) (n : ℕ) → 1_000_000_000 ≤ n → lt (float_with_sign false (round binary64 s n 1)) billion ≡ false
far false n h = big (round binary64 false n 1) (beyond n h)
far true n h =
    ap (λ (x : Float). lt (float_with_sign false x) billion) (sym (neg-round binary64 n 1))
    ∙ ap (λ (x : Float). lt x billion) (neg_size (round binary64 false n 1))
    ∙ big (round binary64 false n 1) (beyond n h)

size-value : (x : Float) (s : Bool) (n : ℕ) → HasValue x s n 1 → HasValue (float_with_sign false x) false n 1
unfolding float_with_sign
size-value nan s n h = h
size-value (inf t) s n h = h
size-value (fin t m e) s n h = (refl, h.1)

near : (s : Bool) (n : ℕ) → n < 1_000_000_000 → lt (float_with_sign false (round binary64 s n 1)) billion ≡ true
near s n h =
    lt_at (float_with_sign false (round binary64 s n 1)) billion n 1 1_000_000_000 1 (omega arith) (omega arith)
    (size-value (round binary64 s n 1) s n (round_whole binary64 s n (omega arith))) (refl, refl)
    ∙ lt-ltb (n * 1) (1_000_000_000 * 1) (omega arith)

-- ---- the whole float as an integer
int_is : (x : Float) (s : Bool) (n : ℕ) → HasValue x s n 1 → n < 2 ^ 31 → to_signed 31 x ≡ signed s n
unfolding to_signed
int_is nan s n h l = absurd h
int_is (inf t) s n h l = absurd h
int_is (fin t m e) s n h l =
    ap (λ (q : ℕ). cond t (neg_ℤ (pos (min q (2 ^ 31)))) (pos (min q (2 ^ 31 - 1)))) quotient ∙ go t s h.0
  where
    quotient : m * up e / down e ≡ n
    quotient = ap (λ (k : ℕ). k / down e) (sym (mul-one (m * up e)) ∙ h.1) ∙ mul-div_cancel n (down_pos e)

    go : (t s : Bool) → t ≡ s → cond t (neg_ℤ (pos (min n (2 ^ 31)))) (pos (min n (2 ^ 31 - 1))) ≡ signed s n
    go true true e = ap (λ (k : ℕ). neg_ℤ (pos k)) (omega arith)
    go false false e = ap pos (omega arith)
    go true false e = absurd (true≢false e)
    go false true e = absurd (true≢false (sym e))

-- ---- by the test
split : (n : ℕ) → Dec (1_000_000_000 ≤ n)
split n = dec_le 1_000_000_000 n

without : (s : Bool) (n : ℕ) → lt (float_with_sign false (round binary64 s n 1)) billion ≡ false → out_of_range ≡ in_range s n
without s n h = go (split n)
  where
    go : Dec (1_000_000_000 ≤ n) → out_of_range ≡ in_range s n
    go (yes l) = ap (λ (b : Bool). refuse 18 b (granted (signed s n))) (sym (le-leb 1_000_000_000 n l))
    go (no l) = absurd (true≢false (sym (near s n (omega arith)) ∙ h))

pub reads_out : (x : Float) → lt (float_with_sign false (round_with nearest_whole nearest_whole binary64 x)) billion ≡ false → out_of_range ≡ reading_of x
unfolding reading_of round_with
reads_out nan h = refl
reads_out (inf s) h = refl
reads_out (fin false m e) h = without false (nearest_whole (m * up e) (down e)) h
reads_out (fin true m e) h = without true (nearest_whole (m * up e) (down e)) h

within : (s : Bool) (n : ℕ) → lt (float_with_sign false (round binary64 s n 1)) billion ≡ true → granted (to_signed 31 (round binary64 s n 1)) ≡ in_range s n
within s n h = go (split n)
  where
    go : Dec (1_000_000_000 ≤ n) → granted (to_signed 31 (round binary64 s n 1)) ≡ in_range s n
    go (yes l) = absurd (true≢false (sym h ∙ far s n l))
    go (no l) =
        let k : n < 1_000_000_000 = omega arith in
        ap granted (int_is (round binary64 s n 1) s n (round_whole binary64 s n (omega arith)) (omega arith))
        ∙ ap (λ (b : Bool). refuse 18 b (granted (signed s n))) (sym (lt-leb 1_000_000_000 n k))

pub reads_in : (x : Float) → lt (float_with_sign false (round_with nearest_whole nearest_whole binary64 x)) billion ≡ true
    → granted (to_signed 31 (round_with nearest_whole nearest_whole binary64 x)) ≡ reading_of x
unfolding reading_of round_with float_with_sign lt
reads_in nan h = absurd (true≢false (sym h))
reads_in (inf s) h = absurd (true≢false (sym h))
reads_in (fin false m e) h = within false (nearest_whole (m * up e) (down e)) h
reads_in (fin true m e) h = within true (nearest_whole (m * up e) (down e)) h
