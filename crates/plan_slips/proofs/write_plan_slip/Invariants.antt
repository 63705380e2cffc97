use Rattle.std.proofs.Common.{◌≡◌}
use Rattle.slips.proofs.Whole.{Written}
use Rattle.plan_slips.specs.Own.{own_rows}
use Rattle.plan_slips.proofs.write_plan_slip.Given as goal

abbrev pub invariant-loop-k : goal.invariant-loop-k
invariant-loop-k l =
    (l.writer.area.ghost_name ≡ l.initial.writer.area.ghost_name)
    × Written l.tree (own_rows l.plan l.tree l.k) l.fn.area l.writer.area.now l.writer.counters.at l.writer.counters.next
