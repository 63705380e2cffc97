use Rattle.std.proofs.Common.{string_bytes, codes, sym, refl, ap, ◌∙◌}
use Rattle.printed_key.specs.Text.{text_of}
use Rattle.printed_key.proofs.Adding.{line_added, from_empty}
use Rattle.printed_key.proofs.text_by.Goals as goal
use Rattle.printed_key.proofs.text_by.Goals.{in-Ok+in_ok-push_blocks-in-Ok, in-Err+in_ok-writeln-in-Err}

pub returns : goal.returns
returns g c = λ blocks pushes.
    elim c.match-read_circuit.branch [
      | in-Ok+in_ok-push_blocks-in-Ok w ↦
          from_empty _ _ _ c.in_ok-text.ensures.bytes
          (ap string_bytes w.text-is ∙ pushes _ _ w.in-Ok.circuit _ w.in_ok-push_blocks-in-Ok.ensures)
          ∙ ap text_of (sym (w.in-Ok.ensures.lines blocks))
      | in-Err+in_ok-writeln-in-Err w ↦
          from_empty _ _ _ c.in_ok-text.ensures.bytes (ap string_bytes w.text-is ∙ line_added _ _ (codes "refused") _ _ w.in_ok-writeln-in-Err.ensures.bytes refl)
          ∙ ap text_of (sym (w.in-Err.ensures.lines blocks))
    ]
