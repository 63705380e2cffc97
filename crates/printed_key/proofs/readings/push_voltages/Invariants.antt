use Rattle.std.proofs.Common.{◌≡◌, ◌++◌, get_or, None, string_bytes}
use Rattle.printed_key.specs.Blocks.{reading_line}
use Rattle.printed_key.specs.Text.{text_of, listed}
use Rattle.printed_key.proofs.readings.push_voltages.Given as goal

abbrev pub invariant-loop-k : goal.invariant-loop-k
invariant-loop-k l = string_bytes l.text ≡ string_bytes l.initial.text ++ text_of (listed (λ k. reading_line k (get_or l.readings k None)) l.k)
