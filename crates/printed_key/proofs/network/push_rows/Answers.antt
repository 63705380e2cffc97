use Rattle.std.proofs.Common.{◌≡◌, ◌∷◌, ◌++◌, string_bytes, decimal, sym, refl, ap, ◌∙◌, arith}
use Rattle.sheet.specs.Refusals.{granted}
use Rattle.printed_key.specs.Blocks.{row_lines, signed_words}
use Rattle.printed_key.specs.Text.{text_of, listed}
use Rattle.printed_key.proofs.Adding.{no_lines, more_lines, no_line, text_before, line_added}
use Rattle.printed_key.proofs.network.push_rows.Goals as goal
use Rattle.printed_key.proofs.network.push_rows.Goals.{in-Some+in_ok-writeln, in_default}

pub loop-k-init : goal.loop-k-init
loop-k-init g c = λ rows h. no_lines _ _

pub loop-k-preserved : goal.loop-k-preserved
loop-k-preserved g c = λ rows h.
    let k = c.loop-k.k in
    let a = string_bytes c.loop-k.text in
    let name = c.args.name.now in
    let e : granted c.row_at.result ≡ rows k = h k c.row_at.result c.loop-k-test.true c.row_at.ensures in
    more_lines (λ k. row_lines name k (rows k)) k _ a _ (c.loop-k.invariant rows h)
    (elim c.match-row_at.branch [
      | in-Some+in_ok-writeln w ↦
          ap string_bytes w.text-is
          ∙ line_added a (string_bytes w.writeln.new.self) name _ (decimal k ∷ listed (signed_words w.in-Some.row) 32) w.in_ok-writeln.ensures.bytes (text_before _ (decimal k) _ (listed (signed_words w.in-Some.row) 32) w.place.ensures refl)
          ∙ ap (λ o. a ++ text_of (row_lines name k o)) (sym (ap granted w.in-Some.is) ∙ e)
      | in_default w ↦
          ap string_bytes w.text-is ∙ no_line a
          ∙ ap (λ o. a ++ text_of (row_lines name k o)) (sym (ap granted w.in_default.is) ∙ e)
    ])

pub returns : goal.returns
returns g c = λ rows h.
    let end : c.loop-k.k ≡ 32 = omega arith in
    c.loop-k.invariant rows h ∙ ap (λ n. string_bytes c.args.text.now ++ text_of (listed (λ k. row_lines c.args.name.now k (rows k)) n)) end
