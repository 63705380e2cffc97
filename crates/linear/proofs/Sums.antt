-- Laws of sums over an exact arithmetic. Assumes nothing.
use Rattle.std.proofs.Common.{◌≡◌, ℕ, zero, suc, ◌+◌, ◌<◌, ◌≢◌, sym, refl, ap, ◌∙◌, ap₂, ⊎_elim, le_of_suc-le-suc, not-suc-le-zero, eq-or-lt_of_le, arith}
use Rattle.arithmetic.specs.Ops.{Ops, Exact}
use Rattle.linear.specs.Systems.{sum}
use Rattle.linear.proofs.Ring.{ring, add-zero, zero-add, mul_zero}

-- equal terms, equal sums
pub sum_same : {M : Type 0} (o : Ops M) (n : ℕ) (f g : ℕ → M) → ((k : ℕ) → k < n → f k ≡ g k) → sum o n f ≡ sum o n g
unfolding sum
sum_same o zero f g e = refl
sum_same o (suc n) f g e = ap₂ o.add (sum_same o n f g (λ k h. e k (omega arith))) (e n (omega arith))

module _ {M : Type 0} {o : Ops M} (laws : Exact o) where
  pub sum_zero : (n : ℕ) (f : ℕ → M) → ((k : ℕ) → k < n → f k ≡ o.nought) → sum o n f ≡ o.nought
  unfolding sum
  sum_zero zero f e = refl
  sum_zero (suc n) f e = ap₂ o.add (sum_zero n f (λ k h. e k (omega arith))) (e n (omega arith)) ∙ add-zero laws o.nought

  four : (a b c d : M) → o.add (o.add a b) (o.add c d) ≡ o.add (o.add a c) (o.add b d)
  four a b c d = simp (ring, laws)

  pub sum-add : (n : ℕ) (f g : ℕ → M) → sum o n (λ k. o.add (f k) (g k)) ≡ o.add (sum o n f) (sum o n g)
  unfolding sum
  sum-add zero f g = sym (add-zero laws o.nought)
  sum-add (suc n) f g = ap (λ s. o.add s (o.add (f n) (g n))) (sum-add n f g) ∙ four (sum o n f) (sum o n g) (f n) (g n)

  out : (t a b : M) → o.add (o.mul t a) (o.mul t b) ≡ o.mul t (o.add a b)
  out t a b = simp (ring, laws)

  pub sum_scale : (n : ℕ) (t : M) (f : ℕ → M) → sum o n (λ k. o.mul t (f k)) ≡ o.mul t (sum o n f)
  unfolding sum
  sum_scale zero t f = sym (mul_zero laws t)
  sum_scale (suc n) t f = ap (λ s. o.add s (o.mul t (f n))) (sum_scale n t f) ∙ out t (sum o n f) (f n)

  -- a sum with one term that need not be zero
  pub sum_only : (n r : ℕ) (f : ℕ → M) → r < n → ((k : ℕ) → k < n → k ≢ r → f k ≡ o.nought) → sum o n f ≡ f r
  unfolding sum
  sum_only zero r f h e = absurd (not-suc-le-zero h)
  sum_only (suc n) r f h e =
      ⊎_elim
      (λ i. ap₂ o.add (sum_zero n f (λ k l. e k (omega arith) (omega arith))) (ap f (sym i)) ∙ zero-add laws (f r))
      (λ l. ap₂ o.add (sum_only n r f l (λ k m. e k (omega arith))) (e n (omega arith) (omega arith)) ∙ add-zero laws (f r))
      (eq-or-lt_of_le (le_of_suc-le-suc h))

  -- the first a terms, and the b after them
  pub sum_split : (a b : ℕ) (f : ℕ → M) → sum o (a + b) f ≡ o.add (sum o a f) (sum o b (λ k. f (a + k)))
  unfolding sum
  sum_split a zero f = ap (λ n. sum o n f) (let e : a + 0 ≡ a = omega arith in e) ∙ sym (add-zero laws (sum o a f))
  sum_split a (suc b) f =
      ap (λ n. sum o n f) (let e : a + suc b ≡ suc (a + b) = omega arith in e)
      ∙ ap (λ s. o.add s (f (a + b))) (sum_split a b f)
      ∙ laws.add_assoc (sum o a f) (sum o b (λ k. f (a + k))) (f (a + b))

  less :
      (s t a b f x : M) →
      o.add (o.sub s (o.mul f t)) (o.mul (o.sub a (o.mul f b)) x) ≡ o.sub (o.add s (o.mul a x)) (o.mul f (o.add t (o.mul b x)))
  less s t a b f x = simp (ring, laws)

  start : (f : M) → o.nought ≡ o.sub o.nought (o.mul f o.nought)
  start f = simp (ring, laws)

  -- a row that lost t times another, applied to x
  pub sum_less :
      (n : ℕ) (t : M) (a b x : ℕ → M) →
      sum o n (λ k. o.mul (o.sub (a k) (o.mul t (b k))) (x k)) ≡ o.sub (sum o n (λ k. o.mul (a k) (x k))) (o.mul t (sum o n (λ k. o.mul (b k) (x k))))
  unfolding sum
  sum_less zero t a b x = start t
  sum_less (suc n) t a b x = ap (λ s. o.add s (o.mul (o.sub (a n) (o.mul t (b n))) (x n))) (sum_less n t a b x) ∙ less _ _ _ _ _ _

  more :
      (a x t y s p : M) →
      o.add (o.add s (o.mul t p)) (o.mul a (o.add x (o.mul t y))) ≡ o.add (o.add s (o.mul a x)) (o.mul t (o.add p (o.mul a y)))
  more a x t y s p = simp (ring, laws)

  begin : (t : M) → o.nought ≡ o.add o.nought (o.mul t o.nought)
  begin t = simp (ring, laws)

  -- a row applied to x with t times y added
  pub sum_more :
      (n : ℕ) (t : M) (a x y : ℕ → M) →
      sum o n (λ k. o.mul (a k) (o.add (x k) (o.mul t (y k)))) ≡ o.add (sum o n (λ k. o.mul (a k) (x k))) (o.mul t (sum o n (λ k. o.mul (a k) (y k))))
  unfolding sum
  sum_more zero t a x y = begin t
  sum_more (suc n) t a x y = ap (λ s. o.add s (o.mul (a n) (o.add (x n) (o.mul t (y n))))) (sum_more n t a x y) ∙ more _ _ _ _ _ _
