-- Sets of numbers as words: bit k stands for the number k. Assumes nothing.
--
-- bits w         the set that the word w stands for
-- those S n      the word of the members of S below n
-- word S         the word of the members of S below 32
-- except S R     the members of S that are not in R
-- under S n      the members of S below n
-- first_from     the first of n numbers from k on that is in S
-- first S        the lowest member of S below 32
-- TakesLowest    the lowest member was taken out of the word v, and is not in w; or there is none, and w is v
use Rattle.std.specs.Prelude.{◌≡◌, ℕ, zero, suc, ◌+◌, ◌/◌, ◌%◌, ◌^◌, cond, not, ◌&&◌, Some, None, Option, MatchOption, ◌==◌, nat_lt}
use Rattle.graphs.specs.Graph.{Set, without}

unfoldable pub bits : ℕ → Set
bits w k = w / 2 ^ k % 2 == 1

unfoldable pub those : Set → ℕ → ℕ
those S zero = zero
those S (suc n) = those S n + cond (S n) (2 ^ n) zero

abbrev pub word : Set → ℕ
word S = those S 32

abbrev pub except : Set → Set → Set
except S R k = S k && not (R k)

abbrev pub under : Set → ℕ → Set
under S n k = S k && nat_lt k n

unfoldable pub first_from : Set → ℕ → ℕ → Option ℕ
first_from S k zero = None
first_from S k (suc n) = cond (S k) (Some k) (first_from S (suc k) n)

abbrev pub first : Set → Option ℕ
first S = first_from S 0 32

abbrev pub TakesLowest : ℕ → Option ℕ → ℕ → Type 0
TakesLowest v r w = (r ≡ first (bits v)) × MatchOption r (w ≡ v) (λ k. bits w ≡ without (bits v) k)
