use Rattle.std.proofs.Common.{sym, ap}
use Rattle.printed_key.specs.Text.{text_of}
use Rattle.printed_key.proofs.Adding.{adds_same, stop_added}
use Rattle.printed_key.proofs.residues.push_residues.Goals as goal

pub returns-in-Err : goal.returns-in-Err
returns-in-Err c = adds_same _ _ _ _ _ (ap text_of (sym c.in-Err.ensures)) (stop_added _ _ _ _ c.writeln.ensures.bytes)
