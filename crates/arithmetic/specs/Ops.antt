-- What an arithmetic is, on meanings: its operations, and the laws that an exact one owes. Assumes nothing.
--
-- Ops M        the operations of an arithmetic on its set of meanings M
-- largest      the largest whole number that an arithmetic is asked for
-- capped       the whole number that is meant: more than the largest is taken as the largest
-- may_divide   what may be divided by: all but zero
-- counted      zero with one added n times
-- Exact        the laws of an exact arithmetic
use Rattle.std.specs.Prelude.{◌≡◌, ℕ, zero, suc, ◌≤◌, min, Bool, true, not, ◌≢◌}

pub record Ops (M : Type 0) : Type 0 where
  pub nought : M
  pub one : M
  pub whole : ℕ → M
  pub add : M → M → M
  pub sub : M → M → M
  pub neg : M → M
  pub mul : M → M → M
  pub div : M → M → M
  pub is_zero : M → Bool
  pub is_sound : M → Bool

abbrev pub largest : ℕ
largest = 999999

abbrev pub capped : ℕ → ℕ
capped n = min n largest

abbrev pub may_divide : {M : Type 0} → Ops M → M → Bool
may_divide o x = not (o.is_zero x)

unfoldable pub counted : {M : Type 0} → Ops M → ℕ → M
counted o zero = o.nought
counted o (suc n) = o.add (counted o n) o.one

pub record Exact {M : Type 0} (o : Ops M) : Type 0 where
  pub add_comm : (a b : M) → o.add a b ≡ o.add b a
  pub add_assoc : (a b c : M) → o.add (o.add a b) c ≡ o.add a (o.add b c)
  pub add-zero : (a : M) → o.add a o.nought ≡ a
  pub add_neg : (a : M) → o.add a (o.neg a) ≡ o.nought
  pub sub_is : (a b : M) → o.sub a b ≡ o.add a (o.neg b)
  pub mul_comm : (a b : M) → o.mul a b ≡ o.mul b a
  pub mul_assoc : (a b c : M) → o.mul (o.mul a b) c ≡ o.mul a (o.mul b c)
  pub mul-one : (a : M) → o.mul a o.one ≡ a
  pub mul-add : (a b c : M) → o.mul a (o.add b c) ≡ o.add (o.mul a b) (o.mul a c)
  pub zero_one : o.nought ≡ o.one → ⊥
  pub mul-div : (a b : M) → (b ≢ o.nought) → o.mul b (o.div a b) ≡ a
  pub whole_is : (n : ℕ) → n ≤ largest → o.whole n ≡ counted o n
  pub zero_only : (a : M) → o.is_zero a ≡ true → a ≡ o.nought
  pub zero_yes : o.is_zero o.nought ≡ true
  pub sound_always : (a : M) → o.is_sound a ≡ true
