-- What a test picks out of a list in stretches, one for each number.
use Rattle.std.proofs.Common.{◌≡◌, ◌≢◌, ℕ, zero, suc, ◌<◌, Bool, true, false, cond, eqb, List, [], ◌∷◌, ◌++◌, decimal, sym, refl, ap, ◌∙◌, subst, append-nil, arith, eqb-true}
use Rattle.std.proofs.lemmas.Bool.{eqb-false, false_from_ne_true}
use Rattle.std.specs.List.{filter}
use Rattle.std.specs.Str.{bytes_eq}
use Rattle.std.proofs.lemmas.Fmt.{decimal_injective}
use Rattle.std.proofs.lemmas.List.Elements.{filter-append}
use Rattle.std.proofs.lemmas.Slice.Eq.{bytes_eq-Decides}
use Rattle.printed_key.specs.Text.{listed}

module _ {X : Type 0} (test : X → Bool) where
  abbrev pub Fails : List X → Type 0
  Fails [] = Unit {0}
  Fails (x ∷ xs) = (test x ≡ false) × Fails xs

  abbrev pub Passes : List X → Type 0
  Passes [] = Unit {0}
  Passes (x ∷ xs) = (test x ≡ true) × Passes xs

  pub filter_fails : (xs : List X) → Fails xs → filter test xs ≡ []
  filter_fails [] h = refl
  filter_fails (x ∷ xs) h = ap (λ b. cond b (x ∷ filter test xs) (filter test xs)) h.0 ∙ filter_fails xs h.1

  pub filter_passes : (xs : List X) → Passes xs → filter test xs ≡ xs
  filter_passes [] h = refl
  filter_passes (x ∷ xs) h = ap (λ b. cond b (x ∷ filter test xs) (filter test xs)) h.0 ∙ ap (λ l. x ∷ l) (filter_passes xs h.1)

  pub fails_more : (xs ys : List X) → Fails xs → Fails ys → Fails (xs ++ ys)
  fails_more [] ys h k = k
  fails_more (x ∷ xs) ys h k = (h.0, fails_more xs ys h.1 k)

  pub fails_listed : (f : ℕ → List X) (n : ℕ) → ((j : ℕ) → j < n → Fails (f j)) → Fails (listed f n)
  unfolding listed
  fails_listed f zero h = tt
  fails_listed f (suc n) h = fails_more (listed f n) (f n) (fails_listed f n (λ j lt. h j (omega arith))) (h n (omega arith))

  -- the stretch of k alone passes
  picked_by : (f : ℕ → List X) (k n : ℕ) (b : Bool) → eqb k n ≡ b → k < suc n → (k < n → filter test (listed f n) ≡ f k) → Passes (f k) → ((j : ℕ) → j < suc n → j ≢ k → Fails (f j)) → filter test (listed f n) ++ filter test (f n) ≡ f k
  picked_by f k n true e lt below p h =
      let same : k ≡ n = eqb-true k n e in
      ap (λ l. l ++ filter test (f n)) (filter_fails (listed f n) (fails_listed f n (λ j l. h j (omega arith) (λ q. omega (arith, q, same, l)))))
      ∙ filter_passes (f n) (subst (λ j. Passes (f j)) same p) ∙ ap f (sym same)
  picked_by f k n false e lt below p h =
      let other : k ≢ n = eqb-false k n e in
      ap (λ l. filter test (listed f n) ++ l) (filter_fails (f n) (h n (omega arith) (λ q. other (sym q))))
      ∙ append-nil (filter test (listed f n)) ∙ below (omega (arith, other))

  pub picked : (f : ℕ → List X) (k n : ℕ) → k < n → Passes (f k) → ((j : ℕ) → j < n → j ≢ k → Fails (f j)) → filter test (listed f n) ≡ f k
  unfolding listed
  picked f k zero lt p h = absurd (omega arith)
  picked f k (suc n) lt p h =
      filter-append test (listed f n) (f n)
      ∙ picked_by f k n (eqb k n) refl lt (λ l. picked f k n l p (λ j m. h j (omega arith))) p h

  -- before and behind what fails
  pub after_fails : (xs ys : List X) → Fails xs → filter test (xs ++ ys) ≡ filter test ys
  after_fails xs ys h = filter-append test xs ys ∙ ap (λ l. l ++ filter test ys) (filter_fails xs h)

  pub before_fails : (xs ys : List X) → Fails ys → filter test (xs ++ ys) ≡ filter test xs
  before_fails xs ys h = filter-append test xs ys ∙ ap (λ l. filter test xs ++ l) (filter_fails ys h) ∙ append-nil (filter test xs)

-- stretches that are the same below a number
pub listed_same : {X : Type 0} (f g : ℕ → List X) (n : ℕ) → ((k : ℕ) → k < n → f k ≡ g k) → listed f n ≡ listed g n
unfolding listed
listed_same f g zero h = refl
listed_same f g (suc n) h = ap (λ l. l ++ f n) (listed_same f g n (λ k l. h k (omega arith))) ∙ ap (λ l. listed g n ++ l) (h n (omega arith))

pub same_bytes : (w : List ℕ) → bytes_eq w w ≡ true
same_bytes w = (bytes_eq-Decides w w).1 refl

pub other_decimal : (j k : ℕ) → j < 32 → k < 32 → j ≢ k → bytes_eq (decimal j) (decimal k) ≡ false
other_decimal j k l m ne = false_from_ne_true (bytes_eq (decimal j) (decimal k)) (λ e. ne (decimal_injective j k (omega arith) (omega arith) ((bytes_eq-Decides (decimal j) (decimal k)).0 e)))
