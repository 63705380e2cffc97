use Rattle.std.proofs.Common.{◌<◌, ◌≤◌, length, Err, sym, ap, ◌∙◌, arith}
use Rattle.std.proofs.lemmas.Result.{err_from_is_err_and}
use Rattle.printed_key.specs.Blocks.{or_refused}
use Rattle.printed_key.specs.Key.{lines_read, tree_read}
use Rattle.printed_key.proofs.Keying.{long_lines, long_tree, faulty_lines, faulty_tree, read_lines, read_tree}
use Rattle.printed_key.proofs.read_circuit.Goals as goal

pub returns-then-input-gt-LONGEST : goal.returns-then-input-gt-LONGEST
returns-then-input-gt-LONGEST c =
    let more : 4096 < length c.args.input.now = omega arith in
    record { lines = λ blocks. long_lines blocks _ more; tree = sym (long_tree _ more) }

pub returns-in_err-sheet : goal.returns-in_err-sheet
returns-in_err-sheet c =
    let fits : length c.args.input.now ≤ 4096 = omega arith in
    let q = err_from_is_err_and c.from_residual.result c.from_residual.ensures.1 in
    let is = q.1 ∙ ap Err q.2 in
    record {
      lines = λ blocks. faulty_lines blocks _ fits _ c.in_err-sheet.ensures.fault ∙ sym (ap (lines_read blocks) is);
      tree = ap tree_read is ∙ sym (faulty_tree _ fits _ c.in_err-sheet.ensures.fault);
    }

pub returns-in_err-tree : goal.returns-in_err-tree
returns-in_err-tree c =
    let fits : length c.args.input.now ≤ 4096 = omega arith in
    let q = err_from_is_err_and c.from_residual-in_err-tree.result c.from_residual-in_err-tree.ensures.1 in
    let is = q.1 ∙ ap Err q.2 in
    record {
      lines = λ blocks.
          read_lines blocks _ fits c.in_ok-sheet.sheet c.in_ok-sheet.ensures.sheet
          ∙ sym (ap (or_refused (blocks (record { plan = c.in_ok-sheet.sheet.plan; rows = c.in_ok-sheet.sheet.rows }))) c.in_err-tree.ensures.answer)
          ∙ sym (ap (lines_read blocks) is);
      tree = ap tree_read is ∙ c.in_err-tree.ensures.answer ∙ sym (read_tree _ fits c.in_ok-sheet.sheet c.in_ok-sheet.ensures.sheet);
    }

pub returns : goal.returns
returns c =
    let fits : length c.args.input.now ≤ 4096 = omega arith in
    record {
      lines = λ blocks.
          read_lines blocks _ fits c.in_ok-sheet.sheet c.in_ok-sheet.ensures.sheet
          ∙ sym (ap (or_refused (blocks (record { plan = c.in_ok-sheet.sheet.plan; rows = c.in_ok-sheet.sheet.rows }))) c.in_ok-tree.ensures.answer);
      tree = c.in_ok-tree.ensures.answer ∙ sym (read_tree _ fits c.in_ok-sheet.sheet c.in_ok-sheet.ensures.sheet);
    }
