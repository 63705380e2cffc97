-- What a loop keeps from turn to turn holds at its end. Assumes nothing.
use Rattle.std.proofs.Common.{◌≡◌, ℕ, zero, suc, ◌+◌, ◌<◌, ◌≤◌, Bool, true, false, cond, refl, ap, ◌∙◌, subst, arith}
use native.Mathlib.Decide.{ℕ_discrete}
use Rattle.linear.specs.Loops.{Tried, steps, down, first, tries}

pub steps-keep :
    {W : Type 0} (P : ℕ → W → Type 0) (f : ℕ → W → W) (n i e : ℕ) (w : W) → i + n ≡ e → P i w →
    ((j : ℕ) (v : W) → i ≤ j → j < e → P j v → P (suc j) (f j v)) → P e (steps f n i w)
unfolding steps
steps-keep P f zero i e w s p turn = subst (λ (j : ℕ). P j w) (let t : i ≡ e = omega arith in t) p
steps-keep P f (suc n) i e w s p turn =
    steps-keep P f n (suc i) e (f i w) (omega arith) (turn i w (omega arith) (omega arith) p) (λ j v l. turn j v (omega arith))

pub down-keep :
    {W : Type 0} (P : ℕ → W → Type 0) (f : ℕ → W → W) (n : ℕ) (w : W) → P n w →
    ((j : ℕ) (v : W) → j < n → P (suc j) v → P j (f j v)) → P 0 (down f n w)
unfolding down
down-keep P f zero w p turn = p
down-keep P f (suc n) w p turn = down-keep P f n (f n w) (turn n w (omega arith) p) (λ j v l. turn j v (omega arith))

-- what a loop that may stop leaves: P at its end, or Q where it stopped
pub record Ends {W : Type 0} (P Q : W → Type 0) (t : Tried W) : Type 0 where
  pub ended : t.ok ≡ true → P t.left
  pub stopped : t.ok ≡ false → Q t.left

pub tries-keep :
    {W : Type 0} (P : ℕ → W → Type 0) (Q : W → Type 0) (f : ℕ → W → Tried W) (n i e : ℕ) (w : W) → i + n ≡ e → P i w →
    ((j : ℕ) (v : W) → i ≤ j → j < e → P j v → Ends (P (suc j)) Q (f j v)) → Ends (P e) Q (tries f n i w)
unfolding tries
tries-keep P Q f zero i e w s p turn =
    record { ended = λ _. subst (λ (j : ℕ). P j w) (let t : i ≡ e = omega arith in t) p; stopped = λ b. cc }
tries-keep P Q f (suc n) i e w s p turn =
    go (f i w).ok refl (turn i w (omega arith) (omega arith) p) (λ q. tries-keep P Q f n (suc i) e (f i w).left (omega arith) q (λ j v l. turn j v (omega arith)))
  where
    go :
        (b :
        Bool) → (f i w).ok ≡ b → Ends (P (suc i)) Q (f i w) → (P (suc i) (f i w).left →
        Ends (P e) Q (tries f n (suc i) (f i w).left)) →
        Ends (P e) Q (cond b (tries f n (suc i) (f i w).left) (f i w))
    go true b one rest = rest (one.ended b)
    go false b one rest = record { ended = λ t. cc; stopped = one.stopped }

-- the first number that passes a test
pub record First (p : ℕ → Bool) (n i r : ℕ) : Type 0 where
  pub from : i ≤ r
  pub to : r ≤ i + n
  pub passes : r < i + n → p r ≡ true
  pub before : (k : ℕ) → i ≤ k → k < r → p k ≡ false

pub first_is : (p : ℕ → Bool) (n i : ℕ) → First p n i (first p n i)
unfolding first
first_is p zero i = record { from = omega arith; to = omega arith; passes = λ l. absurd (omega arith); before = λ k a b. absurd (omega arith) }
first_is p (suc n) i = go (p i) refl (first_is p n (suc i))
  where
    at : (k : ℕ) → k ≡ i → p i ≡ false → p k ≡ false
    at k e h = ap p e ∙ h

    go : (b : Bool) → p i ≡ b → First p n (suc i) (first p n (suc i)) → First p (suc n) i (cond b i (first p n (suc i)))
    go true b rest = record { from = omega arith; to = omega arith; passes = λ _. b; before = λ k l m. absurd (omega arith) }
    go false b rest =
        let r = rest.from in
        let s = rest.to in
        record {
          from = omega arith;
          to = omega arith;
          passes = λ l. rest.passes (omega arith);
          before = λ k l m. elim (ℕ_discrete k i) [ yes e ↦ at k e b | no ne ↦ rest.before k (omega arith) m ];
        }
