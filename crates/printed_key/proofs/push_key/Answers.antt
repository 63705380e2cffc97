use Rattle.std.proofs.Common.{◌++◌, string_bytes, ap, ◌∙◌}
use Rattle.printed_key.specs.Blocks.{network_lines, step_lines, residue_lines}
use Rattle.printed_key.specs.Text.{text_of}
use Rattle.printed_key.proofs.Adding.{adds_then}
use Rattle.printed_key.proofs.push_key.Goals as goal

pub returns : goal.returns
returns c =
    let circuit = c.args.circuit in
    let of = c.framed-framed.ensures in
    let steps = step_lines (record { plan = circuit.sheet.plan; rows = circuit.sheet.rows }) in
    let rests = residue_lines c.args.input.now in
    adds_then _ _ _ _ (network_lines circuit.sheet.plan circuit.tree) (steps ++ rests)
    (c.in_ok-push_network.ensures ∙ (λ i. string_bytes c.args.text.now ++ text_of (network_lines (of.plan i) (of.tree i))))
    (adds_then _ _ _ _ steps rests
    (c.in_ok-push_readings.ensures ∙ ap (λ p. string_bytes c.push_network.new.text ++ text_of (step_lines (record { plan = p; rows = circuit.sheet.rows }))) of.plan)
    c.push_residues.ensures)
