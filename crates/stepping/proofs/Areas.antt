-- That the places a step uses fit in memory, since the slices that it is lent do. Assumes nothing.
use Rattle.std.proofs.Common.{ℕ, ◌*◌, ◌≤◌, ◌<◌, arith}
use Rattle.std.proofs.Math.Nat.{mul-le-mul_left, mul_comm}

pub fewer : (m n size : ℕ) → m ≤ n → n * size < 9223372036854775808 → m * size < 9223372036854775808
fewer m n size l fits =
    let more : size * m ≤ size * n = mul-le-mul_left size l in
    omega (arith, more, fits, mul_comm size m, mul_comm size n)
