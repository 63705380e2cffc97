use Rattle.std.proofs.Common.{ℕ, List, [], sym, subst, arith}
use Rattle.slips.specs.Writing.{Holds}
use Rattle.slips.proofs.Holding.{opened_holds}
use Rattle.slips.proofs.writer.SlipWriter.open.Goals as goal

pub returns-clause-holds : goal.returns-clause-holds
returns-clause-holds c r =
    subst (λ (xs : List ℕ). Holds (record { tree = c.args.tree; rows = [] }) xs 32 0) (sym c.open_area.ensures.area)
    (opened_holds c.args.tree c.args.area.now (omega arith) r)
