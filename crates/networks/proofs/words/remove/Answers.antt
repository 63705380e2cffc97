use Rattle.std.proofs.Common.{◌^◌, ◌<◌, sym, ap, ◌∙◌, arith}
use Rattle.networks.specs.Words.{bits, except}
use Rattle.networks.proofs.Bits.{bits_shifted, without_past}
use Rattle.networks.proofs.words.remove.Goals as goal

pub returns-then-k-lt32 : goal.returns-then-k-lt32
returns-then-k-lt32 c = c.less.ensures ∙ ap (except (bits c.args.word)) (bits_shifted c.args.k (omega arith))

pub returns-else-k-lt32 : goal.returns-else-k-lt32
returns-else-k-lt32 c =
    let fits : c.args.word < 2 ^ 32 = omega arith in
    sym (without_past c.args.word c.args.k 32 fits (omega arith))
