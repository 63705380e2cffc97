use Rattle.std.proofs.Common.{◌≡◌, ◌+◌, ◌*◌, drop}
use Rattle.slips.specs.Bits.{put_bits}
use Rattle.slips.specs.Entries.{entries_bits}
use Rattle.slips.proofs.rows.put_entries.Given as goal

-- what is left to put in gives the whole
abbrev pub invariant-loop-i : goal.invariant-loop-i
invariant-loop-i l = put_bits l.area (l.at + 2 * l.i) (entries_bits (drop l.i l.entries)) ≡ put_bits l.initial.area l.at (entries_bits l.entries)
