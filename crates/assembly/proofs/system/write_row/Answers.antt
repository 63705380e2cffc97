use Rattle.assembly.proofs.Reading.{row_written, entered-kept}
use Rattle.assembly.proofs.system.write_row.Goals as goal

pub returns : goal.returns
returns g c parts sets m =
    let o = g.N.Arithmetic.ops in
    let fr = sets.frames in
    let t = c.args.t in
    let mt = fr.unknown_in t m in
    let entries = c.write_entries.ensures parts sets mt in
    let kept = entered-kept o parts t _ _ sets.holds entries in
    row_written o parts c.args.frame.now fr t _ _ _ _ _ _ _ entries c.place_among-row.ensures c.place_among-column.ensures
    (c.right_of-right.ensures parts (record { frames = fr; holds = kept; levels = sets.levels }) mt) c.place.ensures c.put.ensures
