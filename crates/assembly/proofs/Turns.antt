-- Invariants of code that runs a loop of turns: what is made so far is what the turns so far make. Assumes nothing.
use Rattle.std.proofs.Common.{◌≡◌, ℕ, zero, suc, ◌+◌, ◌<◌, Bool, true, false, cond, refl, ap, ◌∙◌, arith}
use Rattle.arithmetic.specs.Ops.{Ops}
use Rattle.graphs.specs.Graph.{Set, ◌∈◌, Sign}
use Rattle.stories.specs.Assembly.{through, taken}
use Rattle.assembly.specs.Frames.{gathered}

pub none_made : {W : Type 0} (f : ℕ → W → W) (w : W) → w ≡ through f 0 w
unfolding through
none_made f w = refl

pub one_more : {W : Type 0} (f : ℕ → W → W) (k : ℕ) (w now next : W) → now ≡ through f k w → next ≡ f k now → next ≡ through f (k + 1) w
unfolding through
one_more f k w now next e n = n ∙ ap (f k) e ∙ ap (λ (j : ℕ). through f j w) (let s : suc k ≡ k + 1 = omega arith in s)

pub all_made : {W : Type 0} (f : ℕ → W → W) (k n : ℕ) (w now : W) → k ≡ n → now ≡ through f k w → now ≡ through f n w
all_made f k n w now e i = i ∙ ap (λ (j : ℕ). through f j w) e

-- turns that do the same below n
pub turns_alike : {W : Type 0} (f g : ℕ → W → W) (n : ℕ) (w : W) → ((k : ℕ) (v : W) → k < n → f k v ≡ g k v) → through f n w ≡ through g n w
unfolding through
turns_alike f g zero w e = refl
turns_alike f g (suc n) w e = e n _ (omega arith) ∙ ap (g n) (turns_alike f g n w (λ k v l. e k v (omega arith)))

module _ {M : Type 0} (o : Ops M) where
  -- turns of a gathering by equal members, signs and terms are equal
  turn_same : (b c : Bool) (s r : Sign) (x y a : M) → b ≡ c → (c ≡ true → s ≡ r) → (c ≡ true → x ≡ y) → cond b (taken o s x a) a ≡ cond c (taken o r y a) a
  turn_same b true s r x y a e f h = ap (λ b. cond b (taken o s x a) a) e ∙ ap (λ s. taken o s x a) (f refl) ∙ ap (λ x. taken o r x a) (h refl)
  turn_same b false s r x y a e f h = ap (λ b. cond b (taken o s x a) a) e

  pub gathered-same :
      (S R : Set) (s r : ℕ → Sign) (x y : ℕ → M) (a : M) → S ≡ R → ((k : ℕ) → k < 32 → k ∈ R → s k ≡ r k) → ((k : ℕ) → k < 32 → k ∈ R → x k ≡ y k) → gathered o S s x a ≡ gathered o R r y a
  unfolding gathered
  gathered-same S R s r x y a e f h =
      turns_alike (λ k a. cond (S k) (taken o (s k) (x k) a) a) (λ k a. cond (R k) (taken o (r k) (y k) a) a) 32 a (λ k v l. turn_same (S k) (R k) (s k) (r k) (x k) (y k) v (ap (λ S. S k) e) (f k l) (h k l))

-- what the goals of such loops ask
pub ruleset turns = (none_made, one_more, all_made)
