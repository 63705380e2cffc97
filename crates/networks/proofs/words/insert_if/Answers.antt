use Rattle.std.proofs.Common.{sym, ◌∙◌}
use Rattle.std.proofs.lemmas.Bool.{cond-true}
use Rattle.networks.proofs.Bits.{bits-with}
use Rattle.networks.proofs.words.insert_if.Goals as goal

pub returns-then-k-lt32-clause-within : goal.returns-then-k-lt32-clause-within
returns-then-k-lt32-clause-within c = λ within. bits-with c.args.word c.args.k within ∙ sym (cond-true c.args.holds _ _ c.if-holds.true)
