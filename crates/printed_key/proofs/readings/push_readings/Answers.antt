use Rattle.std.proofs.Common.{ap}
use Rattle.printed_key.specs.declared.stop.Stop.TheVariants.{Refused}
use Rattle.printed_key.specs.Blocks.{reading_lines, or_refused, step_lines}
use Rattle.printed_key.specs.Text.{text_of}
use Rattle.printed_key.proofs.Adding.{adds_same, stop_added}
use Rattle.printed_key.proofs.readings.push_readings.Goals as goal

pub returns-in-Ok : goal.returns-in-Ok
unfolding step_lines
returns-in-Ok c = adds_same _ _ _ _ _ (ap (λ a. text_of (or_refused reading_lines a)) c.in-Ok.ensures) c.push_voltages.ensures

pub returns-in-Err : goal.returns-in-Err
unfolding step_lines
returns-in-Err c = adds_same _ _ _ _ _ (ap (λ a. text_of (or_refused reading_lines a)) c.in-Err.ensures) (stop_added _ _ _ (Refused c.in-Err.refusal) c.writeln.ensures.bytes)
