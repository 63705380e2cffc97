use Rattle.std.proofs.Common.{length, ap, add-one, rules}
use Rattle.cards.proofs.Pieces.{next_line}
use Rattle.cards.proofs.lines.ReaderIterator.next.Goals as goal

pub returns-clause-steps : goal.returns-clause-steps
returns-clause-steps c =
    let part = c.in_ok-rest.ensures.lookup.0 in
    record { left = next_line _ _ _ _ part.0 part.2 c.until-length.ensures.reach; number = add-one _; counted = add-one _ }

pub returns-clause-goes : goal.returns-clause-goes
returns-clause-goes c =
    let part = c.in_ok-rest.ensures.lookup.0 in
    let shorter = ap length (next_line _ _ _ _ part.0 part.2 c.until-length.ensures.reach) in
    search rules
