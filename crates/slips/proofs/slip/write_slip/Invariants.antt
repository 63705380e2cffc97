use Rattle.std.proofs.Common.{◌≡◌, take}
use Rattle.slips.proofs.Whole.{Written}
use Rattle.slips.proofs.slip.write_slip.Given as goal

abbrev pub invariant-loop-row : goal.invariant-loop-row
invariant-loop-row l =
    (l.writer.area.ghost_name ≡ l.initial.writer.area.ghost_name)
    × Written l.tree (take l.row-index l.rows) l.fn.area l.writer.area.now l.writer.counters.at l.writer.counters.next
