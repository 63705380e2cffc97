use Rattle.std.proofs.Common.{◌≡◌, ◌+◌, ◌-◌}
use Rattle.slips.specs.Bits.{put_bits, high}
use Rattle.slips.proofs.bits.put_word.Given as goal

-- what is left to put in gives the whole
abbrev pub invariant-loop-i : goal.invariant-loop-i
invariant-loop-i l = put_bits l.area (l.at + l.i) (high (l.count - l.i) l.word) ≡ put_bits l.initial.area l.at (high l.count l.word)
