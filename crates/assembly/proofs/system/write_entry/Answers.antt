use Rattle.assembly.proofs.Reading.{entry_written}
use Rattle.assembly.proofs.system.write_entry.Goals as goal

pub returns : goal.returns
returns g c parts sets mt m =
    let fr = sets.frames in
    entry_written g.N.Arithmetic.ops parts c.args.frame.now fr c.args.t c.args.r _ _ _ _ _ _ c.place_among-row.ensures c.place_among-column.ensures
    (c.entry_of-entry.ensures parts sets mt (fr.unknown_in c.args.r m)) c.place.ensures c.put.ensures
