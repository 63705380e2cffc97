-- Bits of words, and the sets that words stand for.
use Rattle.std.proofs.Common.{min, max, ◌≡◌, ℕ, zero, suc, ◌+◌, ◌*◌, ◌/◌, ◌%◌, ◌^◌, ◌<◌, ◌≤◌, Bool, true, false, cond, not, ◌&&◌, ◌||◌, eqb, ltb, ◌⊎◌, sym, refl, ap, ◌∙◌, ap₂, inl, inr, add-zero, one-mul, pow-suc, add-one, arith}
use mathlib.Core.Path.{fun_ext}
use mathlib.Core.Bool.{or-false, and-true}
use lib.Bits.{bit_and, bit_or, bit_xor, or_shifted_r}
use Rattle.std.proofs.lemmas.Nat.{mod_below, one_shl}
use Rattle.std.proofs.lemmas.Nat.Bits.{bit_at_and, bit_at_or, bit_at_xor, bit_at_above, bit_at-pow_same, bit_at-pow_other, same_from_bits_below}
use Rattle.std.specs.Int.{bit_at}
use Rattle.std.proofs.lemmas.Bool.{eq-eqb, ne_eqb, cases_eq, cases_lt, both_ways, lt-ltb, le-ltb, and_left, and_right, and_from, or_right}
use Rattle.graphs.specs.Graph.{Set, with, without, Below}
use Rattle.graphs.proofs.Sets.{under_less, under_same, same}
use Rattle.networks.specs.Words.{bits, those, word, under}

-- below n + 1 and not n is below n
ltb_more : (j n : ℕ) → (j ≡ n → ⊥) → ltb j (suc n) ≡ ltb j n
ltb_more j n ne = go (cases_lt j n)
  where
    go : (j < n) ⊎ (n ≤ j) → ltb j (suc n) ≡ ltb j n
    go (inl h) = lt-ltb j (suc n) (omega arith) ∙ sym (lt-ltb j n h)
    go (inr h) = le-ltb j (suc n) (omega arith) ∙ sym (le-ltb j n h)

-- what holds at 0 and 1 holds at two remainders by 2
by_bit : (P : ℕ → ℕ → Type 0) → P 0 0 → P 0 1 → P 1 0 → P 1 1 → (m n : ℕ) → P (m % 2) (n % 2)
by_bit P a b c d m n = go (m % 2) (n % 2) (mod_below m 2 (omega arith)) (mod_below n 2 (omega arith))
  where
    one : (Q : ℕ → Type 0) → Q 0 → Q 1 → (r : ℕ) → r < 2 → Q r
    one Q x y zero h = x
    one Q x y (suc zero) h = y
    one Q x y (suc (suc r)) h = absurd (omega arith)

    go : (x y : ℕ) → x < 2 → y < 2 → P x y
    go x y h k = one (λ r. P r y) (one (P 0) a b y k) (one (P 1) c d y k) x h

pub bits-and : (a b k : ℕ) → bits (bit_and a b) k ≡ (bits a k && bits b k)
unfolding bits
bits-and a b k = ap (λ x. eqb x 1) (bit_at_and a b k) ∙ by_bit (λ x y. eqb (min x y) 1 ≡ (eqb x 1 && eqb y 1)) refl refl refl refl (a / 2 ^ k) (b / 2 ^ k)

pub bits-or : (a b k : ℕ) → bits (bit_or a b) k ≡ (bits a k || bits b k)
unfolding bits
bits-or a b k = ap (λ x. eqb x 1) (bit_at_or a b k) ∙ by_bit (λ x y. eqb (max x y) 1 ≡ (eqb x 1 || eqb y 1)) refl refl refl refl (a / 2 ^ k) (b / 2 ^ k)

-- a without what it has in common with b
pub bits_less : (a b k : ℕ) → bits (bit_xor a (bit_and a b)) k ≡ (bits a k && not (bits b k))
unfolding bits
bits_less a b k =
    ap (λ x. eqb x 1) (bit_at_xor a (bit_and a b) k)
    ∙ ap (λ x. eqb ((a / 2 ^ k % 2 + x) % 2) 1) (bit_at_and a b k)
    ∙ by_bit (λ x y. eqb ((x + min x y) % 2) 1 ≡ (eqb x 1 && not (eqb y 1))) refl refl refl refl (a / 2 ^ k) (b / 2 ^ k)

-- no bit of a word stands past its length
pub bits_past : (w k n : ℕ) → w < 2 ^ n → n ≤ k → bits w k ≡ false
unfolding bits
bits_past w k n h le = ap (λ x. eqb x 1) (bit_at_above w n k h le)

-- so a word has numbers below its length alone
pub bits_below : (w : ℕ) → w < 2 ^ 32 → Below 32 (bits w)
bits_below w h j m = elim (cases_lt j 32) [ inl l ↦ l | inr le ↦ absurd (both_ways (bits w j) (bits_past w j 32 h le) m) ]

-- the word of one number
pub bits-one : (k j : ℕ) → bits (2 ^ k) j ≡ eqb j k
unfolding bits
bits-one k j = go (cases_eq j k)
  where
    go : (j ≡ k) ⊎ (j ≡ k → ⊥) → eqb (2 ^ k / 2 ^ j % 2) 1 ≡ eqb j k
    go (inl e) = ap (λ x. eqb (2 ^ k / 2 ^ x % 2) 1) e ∙ ap (λ x. eqb x 1) (bit_at-pow_same k) ∙ sym (eq-eqb j k e)
    go (inr ne) = ap (λ x. eqb x 1) (bit_at-pow_other k j ne) ∙ sym (ne_eqb j k ne)

pub bits_zero : (j : ℕ) → bits 0 j ≡ false
bits_zero j = bits_past 0 j 0 (omega arith) (omega arith)

pub without_past : (w k n : ℕ) → w < 2 ^ n → n ≤ k → without (bits w) k ≡ bits w
without_past w k n h le = fun_ext (λ j. go j (cases_eq j k))
  where
    go : (j : ℕ) → (j ≡ k) ⊎ (j ≡ k → ⊥) → without (bits w) k j ≡ bits w j
    go j (inl e) =
        let past = ap (bits w) e ∙ bits_past w k n h le in
        and_left (bits w j) (not (eqb j k)) past ∙ sym past
    go j (inr ne) = ap (λ t. bits w j && not t) (ne_eqb j k ne) ∙ and-true (bits w j)

-- one number more below which members are taken
pub under_in : (S : Set) (n : ℕ) → S n ≡ true → under S (suc n) ≡ with (under S n) n
under_in S n m = fun_ext (λ j. go j (cases_eq j n))
  where
    go : (j : ℕ) → (j ≡ n) ⊎ (j ≡ n → ⊥) → under S (suc n) j ≡ with (under S n) n j
    go j (inl e) = and_from (S j) (ltb j (suc n)) (ap S e ∙ m) (lt-ltb j (suc n) (omega arith)) ∙ sym (or_right (under S n j) (eqb j n) (eq-eqb j n e))
    go j (inr ne) = ap (λ x. S j && x) (ltb_more j n ne) ∙ sym (or-false (under S n j)) ∙ ap (λ x. under S n j || x) (sym (ne_eqb j n ne))

pub under_out : (S : Set) (n : ℕ) → S n ≡ false → under S (suc n) ≡ under S n
under_out S n m = fun_ext (λ j. go j (cases_eq j n))
  where
    go : (j : ℕ) → (j ≡ n) ⊎ (j ≡ n → ⊥) → under S (suc n) j ≡ under S n j
    go j (inl e) = and_left (S j) (ltb j (suc n)) (ap S e ∙ m) ∙ sym (and_left (S j) (ltb j n) (ap S e ∙ m))
    go j (inr ne) = ap (λ x. S j && x) (ltb_more j n ne)

pub under_none : (S : Set) → under S 0 ≡ bits 0
under_none S = fun_ext (λ j. and_right (S j) (ltb j 0) (le-ltb j 0 (omega arith)) ∙ sym (bits_zero j))

pub under_all : (S : Set) (n : ℕ) → Below n S → under S n ≡ S
under_all S n below = fun_ext (λ j. same (under S n j) (S j) (under_less S n j) (λ m. and_from (S j) (ltb j n) m (lt-ltb j n (below j m))))

pub those_less : (S : Set) (n : ℕ) → those S n < 2 ^ n
unfolding those
those_less S zero = omega arith
those_less S (suc n) = rw (pow-suc 2 n) (go (S n) (those_less S n))
  where
    go : (b : Bool) → those S n < 2 ^ n → those S n + cond b (2 ^ n) zero < 2 ^ n * 2
    go true h = omega arith
    go false h = omega arith

-- the word of a set stands for the set
pub bits-those : (S : Set) (n : ℕ) → bits (those S n) ≡ under S n
unfolding those
bits-those S zero = sym (under_none S)
bits-those S (suc n) = go (S n) refl (bits-those S n)
  where
    more : bits (those S n + 2 ^ n) ≡ with (bits (those S n)) n
    more =
        let e : those S n + 2 ^ n ≡ 1 * 2 ^ n + those S n = omega (arith, one-mul (2 ^ n)) in
        fun_ext (λ j.
        ap (λ x. bits x j) (e ∙ sym (or_shifted_r 1 n (those S n) (those_less S n)) ∙ ap (bit_or (those S n)) (one-mul (2 ^ n)))
        ∙ bits-or (those S n) (2 ^ n) j
        ∙ ap (λ x. bits (those S n) j || x) (bits-one n j))

    go : (b : Bool) → S n ≡ b → bits (those S n) ≡ under S n → bits (those S n + cond b (2 ^ n) zero) ≡ under S (suc n)
    go true m ih = more ∙ ap (λ R. with R n) ih ∙ sym (under_in S n m)
    go false m ih = ap bits (add-zero (those S n)) ∙ ih ∙ sym (under_out S n m)

pub those_cong : (S R : Set) (n : ℕ) → ((k : ℕ) → k < n → S k ≡ R k) → those S n ≡ those R n
unfolding those
those_cong S R zero h = refl
those_cong S R (suc n) h = ap₂ (λ x b. x + cond b (2 ^ n) zero) (those_cong S R n (λ k lt. h k (omega arith))) (h n (omega arith))

pub bit_value : (m : ℕ) → cond (eqb (m % 2) 1) 1 0 ≡ m % 2
bit_value m = by_bit (λ x y. cond (eqb x 1) 1 0 ≡ x) refl refl refl refl m m

one_bit : (v w i : ℕ) → bits v i ≡ bits w i → bit_at v i ≡ bit_at w i
unfolding bits
one_bit v w i e = sym (bit_value (v / 2 ^ i)) ∙ ap (λ b. cond b 1 0) e ∙ bit_value (w / 2 ^ i)

-- and a word is the word of its set
pub those-bits : (w n : ℕ) → w < 2 ^ n → those (bits w) n ≡ w
those-bits w n h = same_from_bits_below n (those (bits w) n) w (those_less (bits w) n) h (λ i lt. one_bit (those (bits w) n) w i (ap (λ R. R i) (bits-those (bits w) n) ∙ sym (under_same (bits w) n i lt)))

-- a word that stands for the members of S below 32
pub is_word : (w : ℕ) (S : Set) → w < 2 ^ 32 → bits w ≡ under S 32 → w ≡ word S
is_word w S h e = sym (those-bits w 32 h) ∙ ap (λ R. those R 32) e ∙ those_cong (under S 32) S 32 (λ k lt. sym (under_same S 32 k lt))

pub set_word : (w : ℕ) (S : Set) → w < 2 ^ 32 → bits w ≡ S → w ≡ word S
set_word w S h e = sym (those-bits w 32 h) ∙ ap (λ R. those R 32) e

pub bits-word : (S : Set) → Below 32 S → bits (word S) ≡ S
bits-word S below = bits-those S 32 ∙ under_all S 32 below

-- `1 << k`, as a set, and as one number more
pub bits_shifted : (k : ℕ) → k < 32 → bits ((1 * 2 ^ k) % 2 ^ 32) ≡ (λ j. eqb j k)
bits_shifted k h = ap bits (one_shl k 32 h) ∙ fun_ext (bits-one k)

pub bits-with : (w k : ℕ) → k < 32 → bits (bit_or w ((1 * 2 ^ k) % 2 ^ 32)) ≡ with (bits w) k
bits-with w k h = fun_ext (bits-or w ((1 * 2 ^ k) % 2 ^ 32)) ∙ ap (λ R j. bits w j || R j) (bits_shifted k h)

-- one number more of a set that is gathered upwards
pub gathers : (S : Set) (k v w : ℕ) (b : Bool) → bits w ≡ under S k → b ≡ S k → bits v ≡ cond b (with (bits w) k) (bits w) → bits v ≡ under S (k + 1)
gathers S k v w b before is e = e ∙ go b is ∙ ap (under S) (sym (add-one k))
  where
    go : (b : Bool) → b ≡ S k → cond b (with (bits w) k) (bits w) ≡ under S (suc k)
    go true is = ap (λ R. with R k) before ∙ sym (under_in S k (sym is))
    go false is = before ∙ sym (under_out S k (sym is))
