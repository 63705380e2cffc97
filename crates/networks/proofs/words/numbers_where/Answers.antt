use Rattle.std.proofs.Common.{sym, arith}
use Rattle.networks.proofs.Bits.{gathers, under_none}
use Rattle.networks.proofs.words.numbers_where.Goals as goal

pub loop-k-init : goal.loop-k-init
loop-k-init g c = λ S says. sym (under_none S)

pub loop-k-preserved : goal.loop-k-preserved
loop-k-preserved g c = λ S says. gathers S c.loop-k.k c.insert_if-word.result c.loop-k.word c.passes.result (c.loop-k.invariant S says) (says _ _ (omega arith) c.passes.ensures) (c.insert_if-word.ensures.within (omega arith))
