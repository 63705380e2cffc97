use Prim.Native.Nat.{◌%◌, ◌<◌}
use native.Mathlib.Omega.{arith}
use Rattle.inverses.proofs.Test.{inverse_at}
use Rattle.inverses.proofs.inverse.Goals as goal

pub returns : goal.returns
returns c =
    let within : c.args.n % 8191 < 8191 = omega arith in
    search (inverse_at, tt)
