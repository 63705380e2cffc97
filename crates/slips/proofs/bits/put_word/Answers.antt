use Rattle.std.proofs.Common.{◌≡◌, ℕ, ◌+◌, ◌-◌, List, ap, ◌∙◌, arith}
use Rattle.slips.specs.Bits.{put_bits, high}
use Rattle.slips.proofs.Putting.{word_turn}
use Rattle.slips.proofs.bits.put_word.Goals as goal

pub loop-i-preserved : goal.loop-i-preserved
loop-i-preserved c =
    let i = c.loop-i.i in
    ap (λ (a : List ℕ). put_bits a (c.args.at + (i + 1)) (high (c.args.count - (i + 1)) c.args.word)) c.put_bit.ensures
    ∙ word_turn c.loop-i.area c.args.at c.args.count i c.args.word (omega arith)
    ∙ c.loop-i.invariant

pub returns : goal.returns
unfolding put_bits high
returns c =
    let z : c.args.count - c.loop-i.i ≡ 0 = omega arith in
    rw z at c.loop-i.invariant
