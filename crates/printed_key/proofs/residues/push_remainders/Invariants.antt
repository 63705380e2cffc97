use Rattle.std.proofs.Common.{◌≡◌, ◌++◌, map, string_bytes}
use Rattle.arithmetic.specs.Residues.{residue}
use Rattle.sheet.specs.Looks.{seen}
use Rattle.sheet.specs.Meanings.{meant_row}
use Rattle.printed_key.specs.Blocks.{remainder_line}
use Rattle.printed_key.specs.Text.{text_of, listed}
use Rattle.printed_key.proofs.residues.push_remainders.Given as goal

abbrev pub invariant-loop-k : goal.invariant-loop-k
invariant-loop-k l =
    string_bytes l.text
    ≡ string_bytes l.initial.text ++ text_of (listed (λ k. remainder_line k (seen (residue 0) l.sheet.plan (map (meant_row residue) l.sheet.rows) k)) l.k)
