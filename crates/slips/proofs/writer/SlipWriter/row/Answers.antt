use Rattle.std.proofs.Common.{◌+◌, rules}
use Rattle.sheet.specs.Refusals.{pass}
use Rattle.slips.specs.Writing.{Given}
use Rattle.slips.proofs.Holding.{given_holds, given_past}
use Rattle.slips.proofs.writer.SlipWriter.row.Goals as goal

pub returns-clause-past : goal.returns-clause-past
returns-clause-past c =
    let w = c.args.self.now in
    let d : Given w.area.now w.counters.at w.counters.next c.args.number c.args.entries.now pass c.put_row.new.area (w.counters.at + 69) (c.args.number + 1) = search rules in
    given_past w.area.now w.counters.at w.counters.next c.args.number c.args.entries.now w.counters.room _ _ _ _ d

pub returns-clause-holds : goal.returns-clause-holds
returns-clause-holds c s h =
    let w = c.args.self.now in
    let d : Given w.area.now w.counters.at w.counters.next c.args.number c.args.entries.now pass c.put_row.new.area (w.counters.at + 69) (c.args.number + 1) = search rules in
    given_holds s w.area.now w.counters.at w.counters.next c.args.number c.args.entries.now w.counters.room h _ _ _ _ d
