-- The inverse of a number modulo 8,191, a prime: its power 8,189. Assumes nothing.
--
-- times         the product modulo 8,191
-- ones x k      x to the power 2 ^ k - 1
-- inverse_of x  x to the power 8,189, which is 1 + 4 * (2 ^ 11 - 1); 0 at 0
-- IsInverse     what is promised of an answered inverse: which number it is, and that the product with it leaves 1
use Rattle.std.specs.Prelude.{◌≡◌, ℕ, zero, suc, ◌*◌, ◌%◌, ◌<◌}

abbrev pub times : ℕ → ℕ → ℕ
times x y = x * y % 8191

unfoldable pub ones : ℕ → ℕ → ℕ
ones x zero = 1
ones x (suc k) = let p = ones x k in times (times p p) x

unfoldable pub inverse_of : ℕ → ℕ
unfolding ones
inverse_of x = let p = ones x 11 in let q = times p p in times (times q q) x

pub record IsInverse (n r : ℕ) : Type 0 where
  pub value : r ≡ inverse_of n
  pub below : r < 8191
  pub rule : (n ≡ 0 → ⊥) → n * r % 8191 ≡ 1
