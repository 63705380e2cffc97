-- Loops as functions of what they change. Assumes nothing.
--
-- Tried W          what a loop that may stop leaves, and whether it came to its end
-- steps f n i w    w after f i, f (i + 1), and so on, n turns
-- down f n w       w after f (n - 1), and so on down to f 0
-- first p n i      the first of i, i + 1, and so on, n numbers, that passes p; i + n where none does
-- tries f n i w    the n turns from i, as far as each comes to its end
use Rattle.std.specs.Prelude.{ℕ, zero, suc, Bool, true, cond}

pub record Tried (W : Type 0) : Type 0 where
  pub ok : Bool
  pub left : W

unfoldable pub steps : {W : Type 0} → (ℕ → W → W) → ℕ → ℕ → W → W
steps f zero i w = w
steps f (suc n) i w = steps f n (suc i) (f i w)

unfoldable pub down : {W : Type 0} → (ℕ → W → W) → ℕ → W → W
down f zero w = w
down f (suc n) w = down f n (f n w)

unfoldable pub first : (ℕ → Bool) → ℕ → ℕ → ℕ
first p zero i = i
first p (suc n) i = cond (p i) i (first p n (suc i))

unfoldable pub tries : {W : Type 0} → (ℕ → W → Tried W) → ℕ → ℕ → W → Tried W
tries f zero i w = record { ok = true; left = w }
tries f (suc n) i w = cond (f i w).ok (tries f n (suc i) (f i w).left) (f i w)
