use Rattle.std.proofs.Common.{◌≡◌, ◌^◌, ◌%◌, ◌*◌, ◌-◌, ap, ◌∙◌, ap₂, arith}
use Rattle.std.specs.Int.RustNames.{count_ones}
use lib.Bits.{bit_and}
use Rattle.std.proofs.lemmas.Nat.{and_mask, one_shl}
use Rattle.assembly.proofs.Counting.{ones_below}
use Rattle.assembly.proofs.system.place_among.Goals as goal

pub returns : goal.returns
returns c =
    let w = c.args.word in
    let m = c.min.result in
    let mask : 1 * 2 ^ m % 2 ^ 64 - 1 ≡ 2 ^ m - 1 = ap (λ n. n - 1) (one_shl m 64 (omega arith)) in
    ap₂ (λ v n. count_ones (bit_and v n)) c.from.ensures mask
    ∙ ap count_ones (and_mask w m)
    ∙ ap (λ n. count_ones (w % 2 ^ n)) c.min.ensures
    ∙ ones_below w c.args.k c.ranges.word.fits
