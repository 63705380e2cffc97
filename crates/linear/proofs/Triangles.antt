-- A matrix with pivots and zeros below them: only zeros go to zero; and a list that does where a column has no pivot. Assumes nothing.
use Rattle.std.proofs.Common.{◌≡◌, ℕ, zero, suc, ◌+◌, ◌<◌, ◌≤◌, Bool, cond, eqb, ◌≢◌, sym, refl, ap, ◌∙◌, arith, eq-eqb, ne_eqb}
use native.Mathlib.Decide.{ℕ_discrete, dec_lt}
use Rattle.arithmetic.specs.Ops.{Ops, Exact}
use Rattle.linear.specs.Systems.{sum}
use Rattle.linear.proofs.Ring.{mul_zero, zero-mul, add-zero}
use Rattle.linear.proofs.Sums.{sum_only, sum_more}
use Rattle.linear.proofs.Matrix.{dot, Null}
use Rattle.linear.proofs.Stages.{Stage}

-- one at m, zero elsewhere
abbrev pub unit : {M : Type 0} → Ops M → ℕ → ℕ → M
unit o m k = cond (eqb k m) o.one o.nought

unit_at : {M : Type 0} (o : Ops M) (m : ℕ) → unit o m m ≡ o.one
unit_at o m = ap (λ (b : Bool). cond b o.one o.nought) (eq-eqb m m refl)

unit_off : {M : Type 0} (o : Ops M) (m k : ℕ) → k ≢ m → unit o m k ≡ o.nought
unit_off o m k ne = ap (λ (b : Bool). cond b o.one o.nought) (ne_eqb k m ne)

module _ {M : Type 0} {o : Ops M} (laws : Exact o) where
  -- a product with what is not zero is zero only at zero
  pub factor_zero : (a x : M) → (a ≡ o.nought → ⊥) → o.mul a x ≡ o.nought → x ≡ o.nought
  factor_zero a x some e =
      let i = o.div o.one a in
      sym (laws.mul-one x)
      ∙ ap (o.mul x) (sym (laws.mul-div o.one a some))
      ∙ sym (laws.mul_assoc x a i)
      ∙ ap (λ y. o.mul y i) (laws.mul_comm x a ∙ e)
      ∙ zero-mul laws i

  pub only_zero :
      (n : ℕ) (A B : ℕ → ℕ → M) → Stage o n n A B → (x : ℕ → M) → Null o n B x → x n ≡ o.nought →
      (m j : ℕ) → j + m ≡ n → (k : ℕ) → j ≤ k → k < n → x k ≡ o.nought
  only_zero n A B s x z last zero j e k a b = absurd (omega arith)
  only_zero n A B s x z last (suc m) j e k a b = go (only_zero n A B s x z last m (suc j) (omega arith))
    where
      others : ((k : ℕ) → suc j ≤ k → k < n → x k ≡ o.nought) → (c : ℕ) → c < suc n → c ≢ j → o.mul (B j c) (x c) ≡ o.nought
      others above c h ne = elim (dec_lt c j) [
        | yes l ↦ ap (λ y. o.mul y (x c)) (s.zeros c j (omega arith) l (omega arith)) ∙ zero-mul laws (x c)
        | no l ↦ elim (ℕ_discrete c n) [
          | yes i ↦ ap (o.mul (B j c)) (ap x i ∙ last) ∙ mul_zero laws (B j c)
          | no i ↦ ap (o.mul (B j c)) (above c (omega arith) (omega arith)) ∙ mul_zero laws (B j c)
        ]
      ]

      go : ((k : ℕ) → suc j ≤ k → k < n → x k ≡ o.nought) → x k ≡ o.nought
      go above = elim (ℕ_discrete k j) [
        | yes i ↦ ap x i
            ∙ factor_zero (B j j) (x j) (s.pivot j (omega arith))
            (sym (sum_only laws (suc n) j (λ c. o.mul (B j c) (x c)) (omega arith) (others above)) ∙ z j (omega arith))
        | no i ↦ above k (omega arith) b
      ]

  sum-unit : (n m : ℕ) (a : ℕ → M) → m < n → sum o n (λ k. o.mul (a k) (unit o m k)) ≡ a m
  sum-unit n m a h =
      sum_only laws n m (λ k. o.mul (a k) (unit o m k)) h (λ k l ne. ap (o.mul (a k)) (unit_off o m k ne) ∙ mul_zero laws (a k))
      ∙ ap (o.mul (a m)) (unit_at o m)
      ∙ laws.mul-one (a m)

  -- a list that goes to zero in the rows from m on, one at column i and zero in the last
  pub record Kernel (n i : ℕ) (B : ℕ → ℕ → M) (m : ℕ) : Type 0 where
    pub list : ℕ → M
    pub dies : (r : ℕ) → m ≤ r → r < n → dot o n B list r ≡ o.nought
    pub some : list i ≡ o.one
    pub last : list n ≡ o.nought

  cancels : (d b : M) → (b ≡ o.nought → ⊥) → o.add d (o.mul (o.div (o.neg d) b) b) ≡ o.nought
  cancels d b some = ap (o.add d) (laws.mul_comm (o.div (o.neg d) b) b ∙ laws.mul-div (o.neg d) b some) ∙ laws.add_neg d

  stays : (x t y : M) → y ≡ o.nought → o.add x (o.mul t y) ≡ x
  stays x t y e = ap (λ y. o.add x (o.mul t y)) e ∙ ap (o.add x) (mul_zero laws t) ∙ add-zero laws x

  -- row m is brought to zero by a multiple of one at m
  kernel_row : (n i : ℕ) (A B : ℕ → ℕ → M) → i < n → Stage o n i A B → (m : ℕ) → m < i → Kernel n i B (suc m) → Kernel n i B m
  kernel_row n i A B hi s m hm g =
      let x = g.list in
      let t = o.div (o.neg (dot o n B x m)) (B m m) in
      let y : ℕ → M = λ k. o.add (x k) (o.mul t (unit o m k)) in
      let moved : (r : ℕ) → dot o n B y r ≡ o.add (dot o n B x r) (o.mul t (B r m)) =
      λ r. sum_more laws (suc n) t (B r) x (unit o m) ∙ ap (λ d. o.add (dot o n B x r) (o.mul t d)) (sum-unit (suc n) m (B r) (omega arith))
      in
      record {
        list = y;
        dies = λ r a b. moved r ∙ elim (ℕ_discrete r m) [
          | yes e ↦ ap (λ (r : ℕ). o.add (dot o n B x r) (o.mul t (B r m))) e ∙ cancels (dot o n B x m) (B m m) (s.pivot m hm)
          | no e ↦ stays (dot o n B x r) t (B r m) (s.zeros m r hm (omega arith) b) ∙ g.dies r (omega arith) b
        ];
        some = stays (x i) t (unit o m i) (unit_off o m i (omega arith)) ∙ g.some;
        last = stays (x n) t (unit o m n) (unit_off o m n (omega arith)) ∙ g.last;
      }

  -- where column i has nothing but zeros from row i on
  pub kernel :
      (n i : ℕ) (A B : ℕ → ℕ → M) → i < n → Stage o n i A B → ((r : ℕ) → i ≤ r → r < n → B r i ≡ o.nought) →
      (d m : ℕ) → m + d ≡ i → Kernel n i B m
  kernel n i A B hi s empty zero m e = record {
    list = unit o i;
    dies = λ r a b. sum-unit (suc n) i (B r) (omega arith) ∙ empty r (omega arith) b;
    some = unit_at o i;
    last = unit_off o i n (omega arith);
  }
  kernel n i A B hi s empty (suc d) m e = kernel_row n i A B hi s m (omega arith) (kernel n i A B hi s empty d (suc m) (omega arith))
