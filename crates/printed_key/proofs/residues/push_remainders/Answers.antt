use Rattle.std.proofs.Common.{[], ◌∷◌, ◌++◌, map, string_bytes, codes, sym, ap, ◌∙◌}
use Rattle.arithmetic.specs.Residues.{residue}
use Rattle.sheet.specs.Looks.{seen}
use Rattle.sheet.specs.Meanings.{meant_row}
use Rattle.printed_key.specs.Blocks.{remainder_line, remainders_line}
use Rattle.printed_key.specs.Text.{text_of}
use Rattle.printed_key.proofs.Adding.{no_lines, more_lines, no_line, line_end, word_before, text_before, line_added}
use Rattle.printed_key.proofs.Looking.{look_line, seen_meant}
use Rattle.printed_key.proofs.residues.push_remainders.Goals as goal
use Rattle.printed_key.proofs.residues.push_remainders.Goals.{in-Some+in_ok-writeln, in_default}

pub loop-k-init : goal.loop-k-init
loop-k-init c = no_lines _ _

pub loop-k-preserved : goal.loop-k-preserved
loop-k-preserved c =
    let k = c.loop-k.k in
    let a = string_bytes c.loop-k.text in
    let seen_here = sym (seen_meant c.args.sheet.now.plan c.args.sheet.now.rows k) in
    more_lines (λ k. remainder_line k (seen (residue 0) c.args.sheet.now.plan (map (meant_row residue) c.args.sheet.now.rows) k)) _ _ _ _
    c.loop-k.invariant
    (elim c.match-look.branch [
      | in-Some+in_ok-writeln w ↦
          ap string_bytes w.text-is
          ∙ line_added a _ (codes "res") _ _ w.in_ok-writeln.ensures.bytes (text_before _ _ _ _ w.place.ensures (word_before _ _ _ (word_before _ _ _ line_end)))
          ∙ ap (λ ls. a ++ text_of ls)
          (ap (λ i. remainders_line k i w.remainder_of-voltage.result ∷ []) w.remainder_of-current.ensures
          ∙ ap (λ u. remainders_line k (residue w.in-Some.look.current).0 u ∷ []) w.remainder_of-voltage.ensures
          ∙ ap (look_line k) w.in-Some.ensures
          ∙ seen_here)
      | in_default w ↦ ap string_bytes w.text-is ∙ no_line a ∙ ap (λ ls. a ++ text_of ls) (ap (look_line k) w.in_default.ensures ∙ seen_here)
    ])
