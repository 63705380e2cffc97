-- The checking arithmetic: remainders modulo 8,191, a prime. Assumes nothing.
--
-- Residue       a number below 8,191
-- residue n     what n leaves when it is divided by 8,191
-- residue_ops   the operations; a quotient is the product with the divisor's inverse, so a quotient by zero is zero
use Rattle.std.specs.Prelude.{ℕ, ◌+◌, ◌-◌, ◌*◌, ◌%◌, true, T, ◌==◌, nat_lt}
use Rattle.std.proofs.Common.{mod-lt, lt→ltb, lit<}
use Rattle.inverses.specs.Inverse.{inverse_of}
use Rattle.arithmetic.specs.Ops.{Ops}

abbrev pub Residue : Type 0
Residue = (n : ℕ) × T (nat_lt n 8191)

abbrev pub residue : ℕ → Residue
residue n = (n % 8191, lt→ltb (n % 8191) 8191 (mod-lt n (lit< tt)))

abbrev pub residue_ops : Ops Residue
residue_ops = record {
  nought = residue 0;
  one = residue 1;
  whole = residue;
  add = λ a b. residue (a.0 + b.0);
  sub = λ a b. residue (a.0 + (8191 - b.0));
  neg = λ a. residue (8191 - a.0);
  mul = λ a b. residue (a.0 * b.0);
  div = λ a b. residue (a.0 * inverse_of b.0);
  is_zero = λ a. (a.0 == 0);
  is_sound = λ a. true;
}
