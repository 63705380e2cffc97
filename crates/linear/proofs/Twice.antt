-- Two runs of a loop whose turns keep a relation. Assumes nothing.
use Rattle.std.proofs.Common.{◌≡◌, ℕ, zero, suc, ◌+◌, ◌<◌, ◌≤◌, Bool, true, false, cond, refl, ap, ◌∙◌, arith}
use Rattle.linear.specs.Loops.{Tried, steps, down, first, tries}

pub steps-both :
    {W : Type 0} (R : W → W → Type 0) (f g : ℕ → W → W) (n i e : ℕ) (w v : W) → i + n ≡ e → R w v →
    ((j : ℕ) (a b : W) → i ≤ j → j < e → R a b → R (f j a) (g j b)) → R (steps f n i w) (steps g n i v)
unfolding steps
steps-both R f g zero i e w v s h turn = h
steps-both R f g (suc n) i e w v s h turn =
    steps-both R f g n (suc i) e (f i w) (g i v) (omega arith) (turn i w v (omega arith) (omega arith) h) (λ j a b l. turn j a b (omega arith))

pub down-both :
    {W : Type 0} (R : W → W → Type 0) (f : ℕ → W → W) (n : ℕ) (w v : W) → R w v →
    ((j : ℕ) (a b : W) → j < n → R a b → R (f j a) (f j b)) → R (down f n w) (down f n v)
unfolding down
down-both R f zero w v h turn = h
down-both R f (suc n) w v h turn = down-both R f n (f n w) (f n v) (turn n w v (omega arith) h) (λ j a b l. turn j a b (omega arith))

pub record Both {W : Type 0} (R : W → W → Type 0) (s t : Tried W) : Type 0 where
  pub ok : s.ok ≡ t.ok
  pub left : R s.left t.left

pub tries-both :
    {W : Type 0} (R : W → W → Type 0) (f : ℕ → W → Tried W) (n i e : ℕ) (w v : W) → i + n ≡ e → R w v →
    ((j : ℕ) (a b : W) → i ≤ j → j < e → R a b → Both R (f j a) (f j b)) → Both R (tries f n i w) (tries f n i v)
unfolding tries
tries-both R f zero i e w v s h turn = record { ok = refl; left = h }
tries-both {W} R f (suc n) i e w v s h turn =
    go (f i w).ok (f i v).ok one one.ok (tries-both R f n (suc i) e (f i w).left (f i v).left (omega arith) one.left (λ j a b l. turn j a b (omega arith)))
  where
    one : Both R (f i w) (f i v)
    one = turn i w v (omega arith) (omega arith) h

    go :
        {s t p q : Tried W} (b d : Bool) → Both R s t → b ≡ d → Both R p q → Both R (cond b p s) (cond d q t)
    go true true one e rest = rest
    go true false one e rest = cc
    go false true one e rest = cc
    go false false one e rest = one

pub first-both : (p q : ℕ → Bool) (n i e : ℕ) → i + n ≡ e → ((k : ℕ) → i ≤ k → k < e → p k ≡ q k) → first p n i ≡ first q n i
unfolding first
first-both p q zero i e s same = refl
first-both p q (suc n) i e s same =
    ap (λ (b : Bool). cond b i (first p n (suc i))) (same i (omega arith) (omega arith))
    ∙ ap (cond (q i) i) (first-both p q n (suc i) e (omega arith) (λ k l. same k (omega arith)))
