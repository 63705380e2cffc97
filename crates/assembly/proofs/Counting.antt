-- How many members of a word stand below a place. Assumes nothing.
use Rattle.std.proofs.Common.{◌≡◌, ℕ, zero, suc, min, ◌+◌, ◌*◌, ◌/◌, ◌%◌, ◌^◌, ◌<◌, ◌≤◌, ◌⊎◌, false, cond, map, count_by, refl, sym, ap, ◌∙◌, inl, inr, arith}
use Rattle.std.specs.Int.RustNames.{count_ones}
use Rattle.std.specs.List.{range_with_len}
use Rattle.std.proofs.lemmas.Bool.{cases_lt}
use Rattle.std.proofs.lemmas.Nat.{mod-pow-add, shr-shr}
use Rattle.std.proofs.lemmas.Simd.{ones-mask_l}
use lib.Lanes.{mask_l}
use Rattle.graphs.specs.Graph.{Set, count}
use Rattle.networks.specs.Words.{bits}
use Rattle.networks.proofs.Bits.{bits_past, bit_value}
use Rattle.assembly.proofs.Reading.{counted}

one_digit : (n k : ℕ) → cond (bits n k) 1 0 ≡ n / 2 ^ k % 2
unfolding bits
one_digit n k = bit_value (n / 2 ^ k)

lowest_digit : (n k m : ℕ) → mask_l (map (bits n) (range_with_len k (suc m))) ≡ cond (bits n k) 1 0 + 2 * mask_l (map (bits n) (range_with_len (k + 1) m))
lowest_digit n k m = refl

digits : (n k m : ℕ) → n / 2 ^ k % 2 ^ m ≡ mask_l (map (bits n) (range_with_len k m))
digits n k zero = omega arith
digits n k (suc m) =
    omega (arith, ap (λ j. n / 2 ^ k % 2 ^ j) (let e : suc m ≡ m + 1 = omega arith in e), mod-pow-add (n / 2 ^ k) m 1, ap (λ v. v % 2 ^ m) (shr-shr n k 1), one_digit n k, lowest_digit n k m, digits n (k + 1) m)

-- no more are counted where no more are
count_past : (S : Set) (n m : ℕ) → n ≤ m → ((j : ℕ) → n ≤ j → S j ≡ false) → count S m ≡ count S n
unfolding count
count_past S n zero l h = ap (count S) (let e : zero ≡ n = omega arith in e)
count_past S n (suc m) l h = go (cases_lt n (suc m)) (λ i. count_past S n m i h)
  where
    go : (n < suc m) ⊎ (suc m ≤ n) → (n ≤ m → count S m ≡ count S n) → cond (S m) (suc (count S m)) (count S m) ≡ count S n
    go (inl i) ih = ap (λ b. cond b (suc (count S m)) (count S m)) (h m (omega arith)) ∙ ih (omega arith)
    go (inr i) ih = ap (count S) (let e : suc m ≡ n = omega arith in e)

pub ones_below : (w k : ℕ) → w < 2 ^ 32 → count_ones (w % 2 ^ min k 32) ≡ count_by (bits w) (range_with_len 0 k)
ones_below w k h =
    ap count_ones (ap (λ v. v % 2 ^ min k 32) (let e : w ≡ w / 2 ^ 0 = omega arith in e) ∙ digits w 0 (min k 32))
    ∙ ones-mask_l (bits w) (range_with_len 0 (min k 32))
    ∙ go (cases_lt k 32)
  where
    go : (k < 32) ⊎ (32 ≤ k) → count_by (bits w) (range_with_len 0 (min k 32)) ≡ count_by (bits w) (range_with_len 0 k)
    go (inl l) = ap (λ n. count_by (bits w) (range_with_len 0 n)) (let e : min k 32 ≡ k = omega arith in e)
    go (inr l) =
        ap (λ n. count_by (bits w) (range_with_len 0 n)) (let e : min k 32 ≡ 32 = omega arith in e)
        ∙ counted (bits w) 32
        ∙ sym (count_past (bits w) 32 k l (λ j i. bits_past w j 32 h i))
        ∙ sym (counted (bits w) k)
