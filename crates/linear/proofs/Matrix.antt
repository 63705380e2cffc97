-- Row operations on a matrix with its right sides, a function of row and column: they keep what goes to zero. Assumes nothing.
use Rattle.std.proofs.Common.{◌≡◌, ℕ, suc, ◌<◌, ◌≤◌, ◌≢◌, sym, ap, ◌∙◌, ap₂, arith}
use native.Mathlib.Decide.{ℕ_discrete, dec_lt}
use Rattle.arithmetic.specs.Ops.{Ops, Exact}
use Rattle.linear.specs.Systems.{sum}
use Rattle.linear.proofs.Ring.{ring}
use Rattle.linear.proofs.Sums.{sum_same, sum_less}

-- row r of A, with its right side, applied to x
abbrev pub dot : {M : Type 0} → Ops M → ℕ → (ℕ → ℕ → M) → (ℕ → M) → ℕ → M
dot o n A x r = sum o (suc n) (λ c. o.mul (A r c) (x c))

-- every row takes x to zero
abbrev pub Null : {M : Type 0} → Ops M → ℕ → (ℕ → ℕ → M) → (ℕ → M) → Type 0
Null o n A x = (r : ℕ) → r < n → dot o n A x r ≡ o.nought

pub record Exchanged {M : Type 0} (n p q : ℕ) (A B : ℕ → ℕ → M) : Type 0 where
  pub up : (k : ℕ) → k ≤ n → B p k ≡ A q k
  pub low : (k : ℕ) → k ≤ n → B q k ≡ A p k
  pub others : (r k : ℕ) → r ≢ p → r ≢ q → k ≤ n → B r k ≡ A r k

-- the rows below p have lost t r times row p
pub record Reduced {M : Type 0} (o : Ops M) (n p : ℕ) (t : ℕ → M) (A B : ℕ → ℕ → M) : Type 0 where
  pub lower : (r k : ℕ) → p < r → r < n → k ≤ n → B r k ≡ o.sub (A r k) (o.mul (t r) (A p k))
  pub upper : (r k : ℕ) → r ≤ p → k ≤ n → B r k ≡ A r k

exchanged_back : {M : Type 0} (n p q : ℕ) (A B : ℕ → ℕ → M) → Exchanged n p q A B → Exchanged n p q B A
exchanged_back n p q A B e = record { up = λ k h. sym (e.low k h); low = λ k h. sym (e.up k h); others = λ r k a b h. sym (e.others r k a b h) }

dot-same :
    {M : Type 0} (o : Ops M) (n : ℕ) (A B : ℕ → ℕ → M) (x : ℕ → M) (r q : ℕ) → ((k : ℕ) → k ≤ n → B r k ≡ A q k) →
    dot o n B x r ≡ dot o n A x q
dot-same o n A B x r q e = sum_same o (suc n) (λ c. o.mul (B r c) (x c)) (λ c. o.mul (A q c) (x c)) (λ k h. ap (λ y. o.mul y (x k)) (e k (omega arith)))

exchanged-null :
    {M : Type 0} (o : Ops M) (n p q : ℕ) (A B : ℕ → ℕ → M) → p < n → q < n → Exchanged n p q A B → (x : ℕ → M) → Null o n A x → Null o n B x
exchanged-null o n p q A B hp hq e x z r hr = elim (ℕ_discrete r p) [
  | yes i ↦ dot-same o n A B x r q (λ k h. ap (λ (r : ℕ). B r k) i ∙ e.up k h) ∙ z q hq
  | no i ↦ elim (ℕ_discrete r q) [
    | yes j ↦ dot-same o n A B x r p (λ k h. ap (λ (r : ℕ). B r k) j ∙ e.low k h) ∙ z p hp
    | no j ↦ dot-same o n A B x r r (λ k h. e.others r k i j h) ∙ z r hr
  ]
]

-- the same lists go to zero
pub record Alike {M : Type 0} (o : Ops M) (n : ℕ) (A B : ℕ → ℕ → M) : Type 0 where
  pub there : (x : ℕ → M) → Null o n A x → Null o n B x
  pub back : (x : ℕ → M) → Null o n B x → Null o n A x

pub exchanged_alike : {M : Type 0} (o : Ops M) (n p q : ℕ) (A B : ℕ → ℕ → M) → p < n → q < n → Exchanged n p q A B → Alike o n A B
exchanged_alike o n p q A B hp hq e =
    record { there = exchanged-null o n p q A B hp hq e; back = exchanged-null o n p q B A hp hq (exchanged_back n p q A B e) }

module _ {M : Type 0} {o : Ops M} (laws : Exact o) where
  none_left : (t : M) → o.sub o.nought (o.mul t o.nought) ≡ o.nought
  none_left t = simp (ring, laws)

  reduced_null : (n p : ℕ) (t : ℕ → M) (A B : ℕ → ℕ → M) → p < n → Reduced o n p t A B → (x : ℕ → M) → Null o n A x → Null o n B x
  reduced_null n p t A B hp e x z r hr = elim (dec_lt p r) [
    | yes h ↦ sum_same o (suc n) (λ c. o.mul (B r c) (x c)) (λ c. o.mul (o.sub (A r c) (o.mul (t r) (A p c))) (x c)) (λ k l. ap (λ y. o.mul y (x k)) (e.lower r k h hr (omega arith)))
        ∙ sum_less laws (suc n) (t r) (A r) (A p) x
        ∙ ap₂ (λ a b. o.sub a (o.mul (t r) b)) (z r hr) (z p hp)
        ∙ none_left (t r)
    | no h ↦ dot-same o n A B x r r (λ k l. e.upper r k (omega arith) l) ∙ z r hr
  ]

  again : (a t b : M) → a ≡ o.sub (o.sub a (o.mul t b)) (o.mul (o.neg t) b)
  again a t b = simp (ring, laws)

  reduced_back : (n p : ℕ) (t : ℕ → M) (A B : ℕ → ℕ → M) → Reduced o n p t A B → Reduced o n p (λ r. o.neg (t r)) B A
  reduced_back n p t A B e = record {
    lower = λ r k a b h. again (A r k) (t r) (A p k) ∙ ap₂ (λ x y. o.sub x (o.mul (o.neg (t r)) y)) (sym (e.lower r k a b h)) (sym (e.upper p k (omega arith) h));
    upper = λ r k a h. sym (e.upper r k a h);
  }

  pub reduced_alike : (n p : ℕ) (t : ℕ → M) (A B : ℕ → ℕ → M) → p < n → Reduced o n p t A B → Alike o n A B
  reduced_alike n p t A B hp e =
      record { there = reduced_null n p t A B hp e; back = reduced_null n p (λ r. o.neg (t r)) B A hp (reduced_back n p t A B e) }
