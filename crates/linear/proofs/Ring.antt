-- The laws of a ring from those of an exact arithmetic, and `ring`, a set by which simp decides its equations: simp (ring, laws). Assumes nothing.
use Rattle.std.proofs.Common.{◌≡◌, sym, ap, ◌∙◌}
use Rattle.arithmetic.specs.Ops.{Ops, Exact}

module _ {M : Type 0} {o : Ops M} (laws : Exact o) where
  pub add_comm : (a b : M) → o.add a b ≡ o.add b a
  add_comm = laws.add_comm

  pub add_assoc : (a b c : M) → o.add (o.add a b) c ≡ o.add a (o.add b c)
  add_assoc = laws.add_assoc

  pub add_left_comm : (a b c : M) → o.add a (o.add b c) ≡ o.add b (o.add a c)
  add_left_comm a b c = sym (laws.add_assoc a b c) ∙ ap (λ x. o.add x c) (laws.add_comm a b) ∙ laws.add_assoc b a c

  pub add-zero : (a : M) → o.add a o.nought ≡ a
  add-zero = laws.add-zero

  pub zero-add : (a : M) → o.add o.nought a ≡ a
  zero-add a = laws.add_comm o.nought a ∙ laws.add-zero a

  pub add_neg : (a : M) → o.add a (o.neg a) ≡ o.nought
  add_neg = laws.add_neg

  pub neg_add_self : (a : M) → o.add (o.neg a) a ≡ o.nought
  neg_add_self a = laws.add_comm (o.neg a) a ∙ laws.add_neg a

  pub add_neg_cancel : (a b : M) → o.add a (o.add (o.neg a) b) ≡ b
  add_neg_cancel a b = sym (laws.add_assoc a (o.neg a) b) ∙ ap (λ x. o.add x b) (laws.add_neg a) ∙ zero-add b

  pub neg_add_cancel : (a b : M) → o.add (o.neg a) (o.add a b) ≡ b
  neg_add_cancel a b = sym (laws.add_assoc (o.neg a) a b) ∙ ap (λ x. o.add x b) (neg_add_self a) ∙ zero-add b

  -- what adds up to zero with a is its negative
  pub neg_is : (a b : M) → o.add a b ≡ o.nought → b ≡ o.neg a
  neg_is a b e = sym (neg_add_cancel a b) ∙ ap (o.add (o.neg a)) e ∙ laws.add-zero (o.neg a)

  pub neg_neg : (a : M) → o.neg (o.neg a) ≡ a
  neg_neg a = sym (neg_is (o.neg a) a (neg_add_self a))

  pub neg_zero : o.neg o.nought ≡ o.nought
  neg_zero = sym (neg_is o.nought o.nought (laws.add-zero o.nought))

  pub neg_add : (a b : M) → o.neg (o.add a b) ≡ o.add (o.neg a) (o.neg b)
  neg_add a b =
      sym
      (neg_is (o.add a b) (o.add (o.neg a) (o.neg b))
      (laws.add_assoc a b (o.add (o.neg a) (o.neg b))
      ∙ ap (o.add a) (add_left_comm b (o.neg a) (o.neg b))
      ∙ add_neg_cancel a (o.add b (o.neg b))
      ∙ laws.add_neg b))

  pub mul_comm : (a b : M) → o.mul a b ≡ o.mul b a
  mul_comm = laws.mul_comm

  pub mul_assoc : (a b c : M) → o.mul (o.mul a b) c ≡ o.mul a (o.mul b c)
  mul_assoc = laws.mul_assoc

  pub mul_left_comm : (a b c : M) → o.mul a (o.mul b c) ≡ o.mul b (o.mul a c)
  mul_left_comm a b c = sym (laws.mul_assoc a b c) ∙ ap (λ x. o.mul x c) (laws.mul_comm a b) ∙ laws.mul_assoc b a c

  pub mul-one : (a : M) → o.mul a o.one ≡ a
  mul-one = laws.mul-one

  pub one-mul : (a : M) → o.mul o.one a ≡ a
  one-mul a = laws.mul_comm o.one a ∙ laws.mul-one a

  pub mul-add : (a b c : M) → o.mul a (o.add b c) ≡ o.add (o.mul a b) (o.mul a c)
  mul-add = laws.mul-add

  pub add-mul : (a b c : M) → o.mul (o.add a b) c ≡ o.add (o.mul a c) (o.mul b c)
  add-mul a b c = laws.mul_comm (o.add a b) c ∙ laws.mul-add c a b ∙ ap (λ x. o.add x (o.mul c b)) (laws.mul_comm c a) ∙ ap (o.add (o.mul a c)) (laws.mul_comm c b)

  -- what leaves another as it is, is zero
  pub zero_is : (a b : M) → o.add a b ≡ a → b ≡ o.nought
  zero_is a b e = sym (neg_add_cancel a b) ∙ ap (o.add (o.neg a)) e ∙ neg_add_self a

  pub mul_zero : (a : M) → o.mul a o.nought ≡ o.nought
  mul_zero a = zero_is (o.mul a o.nought) (o.mul a o.nought) (sym (laws.mul-add a o.nought o.nought) ∙ ap (o.mul a) (laws.add-zero o.nought))

  pub zero-mul : (a : M) → o.mul o.nought a ≡ o.nought
  zero-mul a = laws.mul_comm o.nought a ∙ mul_zero a

  pub mul_neg : (a b : M) → o.mul a (o.neg b) ≡ o.neg (o.mul a b)
  mul_neg a b = neg_is (o.mul a b) (o.mul a (o.neg b)) (sym (laws.mul-add a b (o.neg b)) ∙ ap (o.mul a) (laws.add_neg b) ∙ mul_zero a)

  pub neg_mul : (a b : M) → o.mul (o.neg a) b ≡ o.neg (o.mul a b)
  neg_mul a b = laws.mul_comm (o.neg a) b ∙ mul_neg b a ∙ ap o.neg (laws.mul_comm b a)

  pub sub_is : (a b : M) → o.sub a b ≡ o.add a (o.neg b)
  sub_is = laws.sub_is

pub ruleset ring = (
  sub_is,
  neg_add,
  neg_neg,
  neg_zero,
  mul_neg,
  neg_mul,
  mul-add,
  add-mul,
  mul_zero,
  zero-mul,
  mul-one,
  one-mul,
  add-zero,
  zero-add,
  add_neg,
  neg_add_self,
  add_neg_cancel,
  neg_add_cancel,
  add_assoc,
  add_left_comm,
  add_comm,
  mul_assoc,
  mul_left_comm,
  mul_comm,
)
