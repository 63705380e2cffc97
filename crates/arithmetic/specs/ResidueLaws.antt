-- Remainders modulo 8,191 obey every law of an exact arithmetic. Assumes nothing.
--
-- residue_path, leaves, residue_of
--                 when two residues are one
-- residue_laws    the laws
-- of_remainder to of_product
--                 a number, a part of a sum or a factor may be replaced by its remainder
use Rattle.std.specs.Prelude.{◌≡◌, ℕ, zero, suc, ◌+◌, ◌-◌, ◌*◌, ◌%◌, ◌<◌, ◌≢◌, nat_lt, refl}
use Rattle.std.proofs.Common.{sym, ap, ◌∙◌, add_comm, add_assoc, add-zero, mul_comm, mul_assoc, mul-one, mul-add, mod-eq_of_lt, arith, true-eqb, ltb→lt}
use mathlib.Core.HLevel.{Σ_prop_path}
use Rattle.std.proofs.Math.Nat.{mod-add-mod, add-mod-mod, mod-mod, add-mod}
use Rattle.std.proofs.Math.Dec.{T_prop}
use Rattle.inverses.specs.Inverse.{inverse_of}
use Rattle.inverses.proofs.Remainders.{mod-mul, mul-mod}
use Rattle.inverses.proofs.Test.{inverse_rule}
use Rattle.arithmetic.specs.Ops.{Exact, counted}
use Rattle.arithmetic.specs.Residues.{Residue, residue, residue_ops}

-- equal numbers are equal residues
pub residue_path : (a b : Residue) → a.0 ≡ b.0 → a ≡ b
residue_path a b e = Σ_prop_path (λ n. T_prop (nat_lt n 8191)) e

-- numbers that leave the same are the same residue
pub leaves : (m n : ℕ) → m % 8191 ≡ n % 8191 → residue m ≡ residue n
leaves m n e = residue_path (residue m) (residue n) e

small : (a : Residue) → a.0 < 8191
small a = ltb→lt a.0 8191 a.1

-- a residue is its own remainder
own : (a : Residue) → a.0 % 8191 ≡ a.0
own a = mod-eq_of_lt (small a)

counts : (n : ℕ) → residue n ≡ counted residue_ops n
unfolding counted
counts zero = refl
counts (suc n) =
    leaves (suc n) (n + 1) (ap (λ k. k % 8191) (omega arith))
    ∙ leaves (n + 1) (n % 8191 + 1) (sym (mod-add-mod n 8191 1))
    ∙ ap (λ r. residue_ops.add r residue_ops.one) (counts n)

-- a part of a sum may be replaced by its remainder
sum_left : (m n : ℕ) → (m % 8191 + n) % 8191 ≡ (m + n) % 8191
sum_left m n = mod-add-mod m 8191 n

sum-right : (m n : ℕ) → (m + n % 8191) % 8191 ≡ (m + n) % 8191
sum-right m n = add-mod-mod m n 8191

mod_ap : {m n : ℕ} → m ≡ n → m % 8191 ≡ n % 8191
mod_ap e = ap (λ (k : ℕ). k % 8191) e

divides_back : (a b : Residue) → (b ≢ residue 0) → b.0 * (a.0 * inverse_of b.0 % 8191) % 8191 ≡ a.0
divides_back a b some =
    let rule : b.0 * inverse_of b.0 % 8191 ≡ 1 = inverse_rule b.0 (small b) (λ e. some (residue_path b (residue 0) e)) in
    mul-mod b.0 (a.0 * inverse_of b.0) 8191
    ∙ mod_ap (sym (mul_assoc b.0 a.0 (inverse_of b.0)))
    ∙ mod_ap (ap (λ (k : ℕ). k * inverse_of b.0) (mul_comm b.0 a.0))
    ∙ mod_ap (mul_assoc a.0 b.0 (inverse_of b.0))
    ∙ sym (mul-mod a.0 (b.0 * inverse_of b.0) 8191)
    ∙ ap (λ (k : ℕ). a.0 * k % 8191) rule
    ∙ mod_ap (mul-one a.0)
    ∙ own a

undo : (n : ℕ) → n < 8191 → (n + (8191 - n) % 8191) % 8191 ≡ 0
undo n h = sum-right n (8191 - n) ∙ mod_ap (let e : n + (8191 - n) ≡ 8191 = omega arith in e)

pub residue_laws : Exact residue_ops
residue_laws = record {
  add_comm = λ a b. leaves (a.0 + b.0) (b.0 + a.0) (mod_ap (add_comm a.0 b.0));
  add_assoc = λ a b c.
      leaves ((a.0 + b.0) % 8191 + c.0) (a.0 + (b.0 + c.0) % 8191)
      (sum_left (a.0 + b.0) c.0 ∙ mod_ap (add_assoc a.0 b.0 c.0) ∙ sym (sum-right a.0 (b.0 + c.0)));
  add-zero = λ a. residue_path (residue (a.0 + 0)) a (mod_ap (add-zero a.0) ∙ own a);
  add_neg = λ a. leaves (a.0 + (8191 - a.0) % 8191) 0 (undo a.0 (small a));
  sub_is = λ a b. leaves (a.0 + (8191 - b.0)) (a.0 + (8191 - b.0) % 8191) (sym (sum-right a.0 (8191 - b.0)));
  mul_comm = λ a b. leaves (a.0 * b.0) (b.0 * a.0) (mod_ap (mul_comm a.0 b.0));
  mul_assoc = λ a b c.
      leaves (a.0 * b.0 % 8191 * c.0) (a.0 * (b.0 * c.0 % 8191))
      (mod-mul (a.0 * b.0) c.0 8191 ∙ mod_ap (mul_assoc a.0 b.0 c.0) ∙ sym (mul-mod a.0 (b.0 * c.0) 8191));
  mul-one = λ a. residue_path (residue (a.0 * 1)) a (mod_ap (mul-one a.0) ∙ own a);
  mul-add = λ a b c.
      leaves (a.0 * ((b.0 + c.0) % 8191)) (a.0 * b.0 % 8191 + a.0 * c.0 % 8191)
      (mul-mod a.0 (b.0 + c.0) 8191
      ∙ mod_ap (mul-add a.0 b.0 c.0)
      ∙ sym (sum_left (a.0 * b.0) (a.0 * c.0))
      ∙ sym (sum-right (a.0 * b.0 % 8191) (a.0 * c.0)));
  zero_one = λ e. let z : ◌≡◌ {A = ℕ} 0 1 = ap (λ (a : Residue). a.0) e in omega arith;
  mul-div = λ a b some. residue_path (residue (b.0 * (a.0 * inverse_of b.0 % 8191))) a (divides_back a b some);
  whole_is = λ n _. counts n;
  zero_only = λ a t. residue_path a (residue 0) (true-eqb a.0 0 (sym t));
  zero_yes = refl;
  sound_always = λ a. refl;
}

-- every residue is that of some 16-bit number
pub residue_of : (m : Residue) → residue m.0 ≡ m
residue_of m = residue_path (residue m.0) m (own m)

-- what the code computes: each factor and part may be replaced by its remainder
pub of_remainder : (n : ℕ) → residue (n % 8191) ≡ residue n
of_remainder n = leaves (n % 8191) n (mod-mod n 8191)

pub of_sum : (a b : ℕ) → residue (a + b) ≡ residue (a % 8191 + b % 8191)
of_sum a b = leaves (a + b) (a % 8191 + b % 8191) (add-mod a b 8191)

pub of_left : (a b : ℕ) → residue (a + b) ≡ residue (a % 8191 + b)
of_left a b = leaves (a + b) (a % 8191 + b) (sym (sum_left a b))

pub of_factor : (a b : ℕ) → residue (a * b) ≡ residue (a % 8191 * b)
of_factor a b = leaves (a * b) (a % 8191 * b) (sym (mod-mul a b 8191))

pub of_product : (a b : ℕ) → residue (a * b) ≡ residue (a % 8191 * (b % 8191))
of_product a b = of_factor a b ∙ leaves (a % 8191 * b) (a % 8191 * (b % 8191)) (sym (mul-mod (a % 8191) b 8191))
