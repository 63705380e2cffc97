-- The drawing arithmetic: IEEE 754's binary64, each operation rounded once. Assumes nothing.
--
-- nought, one    +0 and 1
-- Whole r n      the float r is exactly the whole number n
-- binary64_ops   the operations; a float is its own meaning
use Rattle.std.specs.Prelude.{ℕ, false, pos, Float}
use Rattle.std.specs.Float.Ieee.{of_int, add, sub, neg, mul, div, eq}
use Rattle.std.specs.Float.Ieee.Exact.{HasValue}
use Rattle.std.specs.Float.{float_is_finite, fin, binary64}
use Rattle.arithmetic.specs.Ops.{Ops}

abbrev pub nought : Float
nought = fin false 0 (pos 0)

abbrev pub one : Float
one = fin false 1 (pos 0)

abbrev pub Whole : Float → ℕ → Type 0
Whole r n = HasValue r false n 1

abbrev pub binary64_ops : Ops Float
binary64_ops = record {
  nought = nought;
  one = one;
  whole = λ n. of_int binary64 (pos n);
  add = add binary64;
  sub = sub binary64;
  neg = neg;
  mul = mul binary64;
  div = div binary64;
  is_zero = λ x. eq x nought;
  is_sound = float_is_finite;
}
