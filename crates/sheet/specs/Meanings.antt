-- Sheets, rows and placements by meaning. Assumes nothing.
--
-- meant_row         a row whose four values are taken by what they mean
-- meant_placement   a placement whose value and start are
-- meant_sheet       a plan with its rows by meaning
-- meant_call        a call whose values are taken by what they mean
-- meant_answer      an answer whose sheet is
-- meanings          what a call asks of a meaning
use Rattle.std.specs.Prelude.{map}
use Rattle.arithmetic.specs.Ops.{Ops}
use Rattle.sheet.specs.declared.placement.Placement.{Placement}
use Rattle.sheet.specs.declared.row.Row.{Row}
use Rattle.sheet.specs.Calls.{Numbers, valued, Sheet, Call, blank, place, lift, set_value}
use Rattle.sheet.specs.Refusals.{Answer, granted, refused}

abbrev pub meanings : {M : Type 0} → Ops M → Numbers M
meanings o = valued o (λ m. m) o.nought

module _ {V M : Type 0} (mean : V → M) where
  abbrev pub meant_row : Row V → Row M
  meant_row r = record {
    value = mean r.value;
    start = mean r.start;
    current = mean r.current;
    voltage = mean r.voltage;
  }

  abbrev pub meant_placement : Placement V → Placement M
  meant_placement p = record {
    number = p.number;
    kind = p.kind;
    tail = p.tail;
    head = p.head;
    value = mean p.value;
    start = mean p.start;
  }

  abbrev pub meant_sheet : Sheet V → Sheet M
  meant_sheet s = record { plan = s.plan; rows = map meant_row s.rows }

  abbrev pub meant_call : Call V → Call M
  meant_call blank = blank
  meant_call (place p) = place (meant_placement p)
  meant_call (lift k) = lift k
  meant_call (set_value k v) = set_value k (mean v)

  abbrev pub meant_answer : Answer (Sheet V) → Answer (Sheet M)
  meant_answer (granted s) = granted (meant_sheet s)
  meant_answer (refused t) = refused t
