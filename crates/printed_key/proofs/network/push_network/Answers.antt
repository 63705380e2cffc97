use Rattle.std.proofs.Common.{◌≡◌, [], ◌∷◌, string_bytes, codes, refl, sym, ap, ◌∙◌, rules}
use Rattle.sheet.specs.Refusals.{granted, after}
use Rattle.topology.specs.Trees.{loop_of, cut_of, loop_row_of, cut_row_of}
use Rattle.printed_key.specs.Blocks.{tree_line, loop_lines, cut_lines}
use Rattle.printed_key.specs.Text.{listed}
use Rattle.printed_key.proofs.Adding.{then_lines, adds_then, line_added}
use Rattle.printed_key.proofs.network.push_network.Goals as goal

pub returns : goal.returns
unfolding loop_row_of cut_row_of
returns c =
    let a = string_bytes c.args.text.now in
    let p = c.args.framed.now.plan.now in
    let w = c.args.framed.now.frame.tree in
    let of_plan = c.args.framed.now.tree in
    adds_then _ a _ _ (tree_line w ∷ listed (loop_lines p) 32) (listed (cut_lines p) 32)
    (then_lines a _ _ (tree_line w ∷ []) (listed (loop_lines p) 32) (line_added a _ (codes "tree") _ _ c.in_ok-writeln.ensures.bytes refl)
    (c.in_ok-push_rows.ensures (loop_row_of p) (λ k r lt e. let row : r ≡ loop_of c.rows-rows.result.plan.now c.rows-rows.result.tree k = search rules in ap granted (row ∙ (λ i. loop_of (c.rows-rows.ensures.plan i) (c.rows-rows.ensures.tree i) k)) ∙ sym (ap (λ t. after t (λ tree. granted (loop_of p tree k))) of_plan))))
    (c.push_rows-2.ensures (cut_row_of p) (λ k r lt e. let row : r ≡ cut_of c.rows-rows.result.plan.now c.rows-rows.result.tree k = search rules in ap granted (row ∙ (λ i. cut_of (c.rows-rows.ensures.plan i) (c.rows-rows.ensures.tree i) k)) ∙ sym (ap (λ t. after t (λ tree. granted (cut_of p tree k))) of_plan)))
