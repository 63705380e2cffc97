use Rattle.std.proofs.Common.{◌≡◌, ℕ, ◌+◌, List, [], ◌∷◌, ◌++◌, get_or, take, drop, Err, refl, sym, ap, ◌∙◌, subst, arith, rules}
use Rattle.std.proofs.lemmas.List.{take_more, take_all, drop_more, take-append-drop}
use Rattle.std.proofs.lemmas.Result.{err_from_is_err_and}
use Rattle.slips.specs.declared.row.SlipRow.{SlipRow}
use Rattle.slips.specs.Writing.{blanked}
use Rattle.slips.proofs.Whole.{Written, none_written, row_written, slip_of, past_of, sealed, ended, told_apart}
use Rattle.slips.proofs.slip.write_slip.Goals as goal

abbrev none : SlipRow
none = record { number = 0; entries = [] }

pub loop-row-init : goal.loop-row-init
loop-row-init c =
    let o = c.open-writer.ensures in
    (refl, none_written c.args.tree c.args.area.now o.area o.place o.next o.holds)

pub loop-row-preserved : goal.loop-row-preserved
loop-row-preserved c =
    let e = c.in_ok-row.ensures in
    let rows = c.args.rows.now in
    let i = c.loop-row.row-index in
    let r = get_or rows i none in
    let w = c.loop-row.writer in (
      e.lender ∙ c.loop-row.invariant.0,
      subst (λ (xs : List SlipRow). Written c.args.tree xs c.args.area.now c.row.new.self.area.now c.row.new.self.counters.at c.row.new.self.counters.next)
          (sym (take_more rows i none c.loop-row-test.true))
          (row_written c.loop-row.invariant.1 r.number r.entries e.does e.lengths e.past e.holds),
    )

pub returns-in_err-row : goal.returns-in_err-row
returns-in_err-row c =
    let rows = c.args.rows.now in
    let i = c.loop-row.row-index in
    let r = get_or rows i none in
    let p = err_from_is_err_and c.from_residual.result c.from_residual.ensures.1 in
    let whole : take i rows ++ r ∷ drop (i + 1) rows ≡ rows =
    ap (λ (xs : List SlipRow). take i rows ++ xs) (sym (drop_more rows i none c.loop-row-test.true)) ∙ take-append-drop i rows
    in
    let s =
    λ (b : List ℕ) (f : b ≡ blanked c.row.new.self.area.now).
    ended c.loop-row.invariant.1 r.number r.entries (drop (i + 1) rows) whole c.in_err-row.field-0.0 c.in_err-row.ensures.does c.from_residual.result {b = b} (p.1 ∙ ap Err p.2) f
    in
    record { answers = (s _ refl).answers; slip = slip_of (s _ (search rules)); apart = told_apart; past = past_of (s _ (search rules)) }

pub returns : goal.returns
returns c =
    let rows = c.args.rows.now in
    let w = subst (λ (xs : List SlipRow). Written c.args.tree xs c.args.area.now c.loop-row.writer.area.now c.loop-row.writer.counters.at c.loop-row.writer.counters.next)
    (take_all c.loop-row.row-index rows (omega arith)) c.loop-row.invariant.1
    in
    let s = λ (b : List ℕ) (e : b ≡ c.loop-row.writer.area.now). sealed w c.seal.result {b = b} c.seal.ensures.answers c.seal.ensures.area c.seal.ensures.reads_back e in
    record { answers = (s _ refl).answers; slip = slip_of (s _ (search rules)); apart = told_apart; past = past_of (s _ (search rules)) }
