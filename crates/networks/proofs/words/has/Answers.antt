use Rattle.std.proofs.Common.{◌/◌, ◌^◌, ◌<◌, eqb, sym, ap, ◌∙◌, arith}
use Rattle.std.proofs.lemmas.Bool.{le-ltb}
use Rattle.std.proofs.lemmas.Nat.{and_mask}
use Rattle.networks.specs.Words.{bits}
use Rattle.networks.proofs.Bits.{bits_past}
use Rattle.networks.proofs.words.has.Goals as goal

pub returns-then-k-lt32 : goal.returns-then-k-lt32
unfolding bits
returns-then-k-lt32 c = ap (λ x. eqb x 1) (and_mask (c.args.word / 2 ^ c.args.k) 1)

pub returns-else-k-lt32 : goal.returns-else-k-lt32
returns-else-k-lt32 c =
    let fits : c.args.word < 2 ^ 32 = omega arith in
    le-ltb c.args.k 32 (omega arith) ∙ sym (bits_past c.args.word c.args.k 32 fits (omega arith))
