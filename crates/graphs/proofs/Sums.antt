-- Laws of groups, and of sums in them. Assumes nothing.
use Rattle.std.proofs.Common.{◌≡◌, ℕ, zero, suc, ◌<◌, Bool, true, false, cond, eqb, sym, refl, ap, ◌∙◌, ap₂, inl, inr, arith}
use Rattle.std.proofs.lemmas.Bool.{eq-eqb, ne_eqb, cases_eq, cond-true, cond-false}
use Rattle.graphs.specs.Graph.{Set, ◌∈◌, Sign, plus, none, minus}
use Rattle.graphs.specs.Cuts.{diff, turned}
use Rattle.graphs.specs.Groups.{Group, sub, sum, sum_over, times}

module _ {M : Type 0} (G : Group M) where
  pub unit_left : (x : M) → G.add G.zero x ≡ x
  unit_left x = G.comm G.zero x ∙ G.unit x

  pub inverse_left : (x : M) → G.add (G.neg x) x ≡ G.zero
  inverse_left x = G.comm (G.neg x) x ∙ G.inverse x

  -- what added to x gives zero is its negative
  only_inverse : (x y : M) → G.add x y ≡ G.zero → y ≡ G.neg x
  only_inverse x y e =
      sym (unit_left y) ∙ ap (λ z. G.add z y) (sym (inverse_left x)) ∙ G.assoc (G.neg x) x y ∙ ap (G.add (G.neg x)) e ∙ G.unit (G.neg x)

  pub neg_zero : G.neg G.zero ≡ G.zero
  neg_zero = sym (only_inverse G.zero G.zero (G.unit G.zero))

  pub neg_neg : (x : M) → G.neg (G.neg x) ≡ x
  neg_neg x = sym (only_inverse (G.neg x) x (inverse_left x))

  -- two sums, term by term
  pub cross : (a b c d : M) → G.add (G.add a b) (G.add c d) ≡ G.add (G.add a c) (G.add b d)
  cross a b c d =
      G.assoc a b (G.add c d) ∙ ap (G.add a) (sym (G.assoc b c d) ∙ ap (λ z. G.add z d) (G.comm b c) ∙ G.assoc c b d) ∙ sym (G.assoc a c (G.add b d))

  pub neg_add : (x y : M) → G.neg (G.add x y) ≡ G.add (G.neg x) (G.neg y)
  neg_add x y = sym (only_inverse (G.add x y) (G.add (G.neg x) (G.neg y)) (cross x y (G.neg x) (G.neg y) ∙ ap₂ G.add (G.inverse x) (G.inverse y) ∙ G.unit G.zero))

  -- by way of y
  pub sub-sub : (x y z : M) → sub G x z ≡ G.add (sub G x y) (sub G y z)
  sub-sub x y z =
      sym (G.assoc x (G.neg y) (sub G y z) ∙ ap (G.add x) (sym (G.assoc (G.neg y) y (G.neg z)) ∙ ap (λ w. G.add w (G.neg z)) (inverse_left y) ∙ unit_left (G.neg z)))

  pub neg_sub : (x y : M) → G.neg (sub G x y) ≡ sub G y x
  neg_sub x y = neg_add x (G.neg y) ∙ ap (G.add (G.neg x)) (neg_neg y) ∙ G.comm (G.neg x) y

  pub sub_zero : (x y : M) → sub G x y ≡ G.zero → x ≡ y
  sub_zero x y e = sym (G.unit x) ∙ ap (G.add x) (sym (inverse_left y)) ∙ sym (G.assoc x (G.neg y) y) ∙ ap (λ z. G.add z y) e ∙ unit_left y

  -- signs
  pub times-turned : (s : Sign) (x : M) → times G (turned s) x ≡ G.neg (times G s x)
  times-turned plus x = refl
  times-turned none x = sym neg_zero
  times-turned minus x = sym (neg_neg x)

  pub times-diff : (a b : Bool) (x : M) → times G (diff a b) x ≡ sub G (cond a x G.zero) (cond b x G.zero)
  times-diff true true x = sym (G.inverse x)
  times-diff true false x = sym (ap (G.add x) neg_zero ∙ G.unit x)
  times-diff false true x = sym (unit_left (G.neg x))
  times-diff false false x = sym (G.inverse G.zero)

  -- sums
  pub sum_cong : (f h : ℕ → M) (n : ℕ) → ((k : ℕ) → f k ≡ h k) → sum G f n ≡ sum G h n
  sum_cong f h n e = ap (λ u. sum G u n) (λ i k. e k i)

  pub sum_zero : (f : ℕ → M) (n : ℕ) → ((k : ℕ) → k < n → f k ≡ G.zero) → sum G f n ≡ G.zero
  unfolding sum
  sum_zero f zero e = refl
  sum_zero f (suc n) e = ap₂ G.add (sum_zero f n (λ k h. e k (omega arith))) (e n (omega arith)) ∙ G.unit G.zero

  pub sum-add : (f h : ℕ → M) (n : ℕ) → sum G (λ k. G.add (f k) (h k)) n ≡ G.add (sum G f n) (sum G h n)
  unfolding sum
  sum-add f h zero = sym (G.unit G.zero)
  sum-add f h (suc n) = ap (λ u. G.add u (G.add (f n) (h n))) (sum-add f h n) ∙ cross (sum G f n) (sum G h n) (f n) (h n)

  pub sum_neg : (f : ℕ → M) (n : ℕ) → sum G (λ k. G.neg (f k)) n ≡ G.neg (sum G f n)
  unfolding sum
  sum_neg f zero = sym neg_zero
  sum_neg f (suc n) = ap (λ u. G.add u (G.neg (f n))) (sum_neg f n) ∙ sym (neg_add (sum G f n) (f n))

  -- all but one are zero
  pub sum_one : (f : ℕ → M) (k n : ℕ) → k < n → ((j : ℕ) → (j ≡ k → ⊥) → f j ≡ G.zero) → sum G f n ≡ f k
  unfolding sum
  sum_one f k zero l e = absurd (omega arith)
  sum_one f k (suc n) l e = elim (cases_eq k n) [ inl d ↦ ap₂ G.add (sum_zero f n (λ j h. e j (λ u. omega arith))) (ap f (sym d)) ∙ unit_left (f k) | inr d ↦ ap₂ G.add (sum_one f k n (omega arith) e) (e n (λ u. d (sym u))) ∙ G.unit (f k) ]

  -- one number's part of a sum
  pub sum_at : (x : M) (k n : ℕ) → k < n → sum G (λ j. cond (eqb j k) x G.zero) n ≡ x
  sum_at x k n l = sum_one (λ j. cond (eqb j k) x G.zero) k n l (λ j d. cond-false (eqb j k) x G.zero (ne_eqb j k d)) ∙ cond-true (eqb k k) x G.zero (eq-eqb k k refl)

  -- two sums that differ at k alone
  pub sum_more : (x : M) (f h : ℕ → M) (k n : ℕ) → k < n → ((j : ℕ) → h j ≡ G.add (cond (eqb j k) x G.zero) (f j)) → sum G h n ≡ G.add x (sum G f n)
  sum_more x f h k n l e = sum_cong h (λ j. G.add (cond (eqb j k) x G.zero) (f j)) n e ∙ sum-add (λ j. cond (eqb j k) x G.zero) f n ∙ ap (λ u. G.add u (sum G f n)) (sum_at x k n l)

  pub sum_swap : (f : ℕ → ℕ → M) (m n : ℕ) → sum G (λ i. sum G (f i) n) m ≡ sum G (λ j. sum G (λ i. f i j) m) n
  unfolding sum
  sum_swap f zero n = sym (sum_zero (λ j. G.zero) n (λ k h. refl))
  sum_swap f (suc m) n = ap (λ u. G.add u (sum G (f m) n)) (sum_swap f m n) ∙ sym (sum-add (λ j. sum G (λ i. f i j) m) (f m) n)

  pub times_zero : (s : Sign) → times G s G.zero ≡ G.zero
  times_zero plus = refl
  times_zero none = refl
  times_zero minus = neg_zero

  pub times_swap : (s r : Sign) (x : M) → times G s (times G r x) ≡ times G r (times G s x)
  times_swap plus r x = refl
  times_swap none r x = sym (times_zero r)
  times_swap minus plus x = refl
  times_swap minus none x = neg_zero
  times_swap minus minus x = refl

  -- sums over a set
  cond_zero : (b : Bool) → cond b G.zero G.zero ≡ G.zero
  cond_zero true = refl
  cond_zero false = refl

  pub over_cong : (A : Set) (f h : ℕ → M) (n : ℕ) → ((k : ℕ) → k ∈ A → f k ≡ h k) → sum_over G A f n ≡ sum_over G A h n
  over_cong A f h n e = sum_cong _ _ n (λ k. one k (A k) refl)
    where
      one : (k : ℕ) (b : Bool) → A k ≡ b → cond b (f k) G.zero ≡ cond b (h k) G.zero
      one k true i = e k i
      one k false i = refl

  pub over_zero : (A : Set) (f : ℕ → M) (n : ℕ) → ((k : ℕ) → k < n → k ∈ A → f k ≡ G.zero) → sum_over G A f n ≡ G.zero
  over_zero A f n e = sum_zero _ n (λ k h. one k h (A k) refl)
    where
      one : (k : ℕ) → k < n → (b : Bool) → A k ≡ b → cond b (f k) G.zero ≡ G.zero
      one k h true i = e k h i
      one k h false i = refl

  pub over_swap : (A B : Set) (f : ℕ → ℕ → M) (m n : ℕ) → sum_over G A (λ k. sum_over G B (f k) n) m ≡ sum_over G B (λ t. sum_over G A (λ k. f k t) m) n
  over_swap A B f m n =
      sum_cong _ _ m (λ k. inside (A k) (λ t. cond (B t) (f k t) G.zero) n) ∙ sum_swap (λ k t. cond (A k) (cond (B t) (f k t) G.zero) G.zero) m n
      ∙ sum_cong _ _ n (λ t. sum_cong _ _ m (λ k. turn (A k) (B t) (f k t)) ∙ sym (inside (B t) (λ k. cond (A k) (f k t) G.zero) m))
    where
      inside : (b : Bool) (h : ℕ → M) (n : ℕ) → cond b (sum G h n) G.zero ≡ sum G (λ k. cond b (h k) G.zero) n
      inside true h n = refl
      inside false h n = sym (sum_zero (λ k. G.zero) n (λ k l. refl))

      turn : (a b : Bool) (x : M) → cond a (cond b x G.zero) G.zero ≡ cond b (cond a x G.zero) G.zero
      turn true b x = refl
      turn false b x = sym (cond_zero b)

  pub over-times : (A : Set) (s : Sign) (f : ℕ → M) (n : ℕ) → sum_over G A (λ k. times G s (f k)) n ≡ times G s (sum_over G A f n)
  over-times A plus f n = refl
  over-times A none f n = over_zero A (λ k. G.zero) n (λ k l h. refl)
  over-times A minus f n = sum_cong _ _ n (λ k. one (A k) (f k)) ∙ sum_neg (λ k. cond (A k) (f k) G.zero) n
    where
      one : (b : Bool) (x : M) → cond b (G.neg x) G.zero ≡ G.neg (cond b x G.zero)
      one true x = refl
      one false x = sym neg_zero

  pub over-sub : (A : Set) (f h : ℕ → M) (n : ℕ) → sub G (sum_over G A f n) (sum_over G A h n) ≡ sum_over G A (λ k. sub G (f k) (h k)) n
  over-sub A f h n =
      ap (G.add (sum_over G A f n)) (sym (sum_neg (λ k. cond (A k) (h k) G.zero) n)) ∙ sym (sum-add (λ k. cond (A k) (f k) G.zero) (λ k. G.neg (cond (A k) (h k) G.zero)) n)
      ∙ sum_cong _ _ n (λ k. one (A k) (f k) (h k))
    where
      one : (b : Bool) (x y : M) → sub G (cond b x G.zero) (cond b y G.zero) ≡ cond b (sub G x y) G.zero
      one true x y = refl
      one false x y = G.inverse G.zero
