use Rattle.std.proofs.Common.{◌≡◌, length, take}
use Rattle.sheet.specs.Refusals.{granted}
use Rattle.printed_key.specs.Blocks.{readings_below}
use Rattle.printed_key.proofs.readings.readings.Given as goal

abbrev pub invariant-loop-k : goal.invariant-loop-k
invariant-loop-k l = (readings_below l.plan l.rows l.k ≡ granted (take l.k l.reading-items)) × (length l.reading-items ≡ 32)
