use Rattle.std.proofs.Common.{◌≡◌, ◌++◌, get_or, Some, None, string_bytes, codes, sym, ap, ◌∙◌, rules, w32}
use Rattle.printed_key.specs.Blocks.{reading_line}
use Rattle.printed_key.specs.Text.{text_of}
use Rattle.printed_key.proofs.Adding.{no_lines, more_lines, no_line, line_end, word_before, text_before, line_added}
use Rattle.printed_key.proofs.readings.push_voltages.Goals as goal
use Rattle.printed_key.proofs.readings.push_voltages.Goals.{in-Some+in_ok-writeln, in_default}
use mir.Val.{to_z, of_z}

pub loop-k-init : goal.loop-k-init
loop-k-init c = no_lines _ _

pub loop-k-preserved : goal.loop-k-preserved
loop-k-preserved c =
    let k = c.loop-k.k in
    let a = string_bytes c.loop-k.text in
    more_lines (λ k. reading_line k (get_or c.args.readings.now k None)) _ _ _ _ c.loop-k.invariant
    (elim c.match-reading.branch [
      | in-Some+in_ok-writeln w ↦
          (let z : to_z w32 (of_z w32 w.in-Some.reading) ≡ w.in-Some.reading = search rules in
          ap string_bytes w.text-is
          ∙ line_added a _ (codes "mv") _ _ w.in_ok-writeln.ensures.bytes (text_before _ _ _ _ w.place.ensures (word_before _ _ _ line_end))
          ∙ ap (λ z. a ++ text_of (reading_line k (Some z))) z
          ∙ ap (λ o. a ++ text_of (reading_line k o)) (sym w.in-Some.is))
      | in_default w ↦ ap string_bytes w.text-is ∙ no_line a ∙ ap (λ o. a ++ text_of (reading_line k o)) (sym w.in_default.is)
    ])
