use Rattle.sheet.specs.Meanings.{meant_sheet}
use Rattle.cards.specs.Lines.{lines_left}
use Rattle.cards.specs.Parts.{parts}
use Rattle.cards.specs.Reading.{lines_done}
use Rattle.cards.proofs.Placing.{Left}
use Rattle.cards.proofs.calls.read_cards.Given as goal

abbrev pub invariant-loop-line : goal.invariant-loop-line
invariant-loop-line g l =
    Left g.N.Arithmetic.ops l.line-iterator.lines (lines_left l.line-iterator) (meant_sheet g.N.Arithmetic.mean (record { plan = l.plan; rows = l.rows }))
    (lines_done g.N.Arithmetic.ops 0 (parts 10 l.input) (meant_sheet g.N.Arithmetic.mean (record { plan = l.initial.plan; rows = l.initial.rows })))
