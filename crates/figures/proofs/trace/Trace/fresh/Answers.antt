use Rattle.std.proofs.Common.{refl}
use lib.Ieee.{of_bits}
use Rattle.figures.proofs.Summing.{sums_fresh}
use Rattle.figures.proofs.trace.Trace.fresh.Goals as goal

pub returns : goal.returns
unfolding of_bits
returns c = record { value = refl; sums = sums_fresh }
