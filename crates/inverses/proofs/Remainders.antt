-- Laws of the remainders of products. Assumes nothing.
use mathlib.Core.Path.{◌≡◌, sym, ap, ◌∙◌}
use Prim.Native.Nat.{ℕ, ◌+◌, ◌*◌, ◌/◌, ◌%◌, ◌<◌}
use native.Mathlib.Nat.{mod-add-div, add-mul, mul_assoc, mul_comm, mul-one, mod-eq_of_lt, add-mul-mod_self_left}

-- a factor may be replaced by its remainder
pub mod-mul : (a b m : ℕ) → (a % m) * b % m ≡ a * b % m
mod-mul a b m =
    sym (add-mul-mod_self_left (a % m * b) m (a / m * b))
    ∙ ap (λ (x : ℕ). (a % m * b + x) % m) (sym (mul_assoc m (a / m) b))
    ∙ ap (λ (x : ℕ). x % m) (sym (add-mul (a % m) (m * (a / m)) b))
    ∙ ap (λ (x : ℕ). x * b % m) (mod-add-div a m)

pub mul-mod : (a b m : ℕ) → a * (b % m) % m ≡ a * b % m
mul-mod a b m = ap (λ (x : ℕ). x % m) (mul_comm a (b % m)) ∙ mod-mul b a m ∙ ap (λ (x : ℕ). x % m) (mul_comm b a)

-- where b undoes the factor n, it takes x * n back to x
pub undone : (x n b m : ℕ) → x < m → n * b % m ≡ 1 → x * n % m * b % m ≡ x
undone x n b m h e =
    mod-mul (x * n) b m
    ∙ ap (λ (y : ℕ). y % m) (mul_assoc x n b)
    ∙ sym (mul-mod x (n * b) m)
    ∙ ap (λ (y : ℕ). x * y % m) e
    ∙ ap (λ (y : ℕ). y % m) (mul-one x)
    ∙ mod-eq_of_lt h

-- a number has one inverse below the modulus
pub one_inverse : (n x y m : ℕ) → x < m → y < m → n * x % m ≡ 1 → n * y % m ≡ 1 → x ≡ y
one_inverse n x y m hx hy ex ey =
    sym (undone x n y m hx ey)
    ∙ ap (λ (z : ℕ). z % m * y % m) (mul_comm x n)
    ∙ ap (λ (z : ℕ). z * y % m) (ex ∙ sym ey)
    ∙ ap (λ (z : ℕ). z % m * y % m) (mul_comm n y)
    ∙ undone y n y m hy ey
