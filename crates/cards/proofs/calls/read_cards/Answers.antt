use Rattle.std.proofs.Common.{◌≡◌, ℕ, List, length, ap, ◌∙◌, rules}
use Rattle.std.proofs.lemmas.Result.{err_from_is_err_and}
use Rattle.sheet.specs.declared.plan.Plan.{Plan}
use Rattle.sheet.specs.declared.row.Row.{Row}
use Rattle.sheet.specs.Meanings.{meant_sheet}
use Rattle.cards.specs.declared.fault.Fault.{Fault}
use Rattle.cards.specs.declared.reader.Reader.{Reader}
use Rattle.cards.specs.Following.{Accepts, Blames}
use Rattle.cards.specs.Lines.{lines_left}
use Rattle.cards.specs.Reading.{State, lines_done, cards_read}
use Rattle.cards.proofs.Obeying.{accepts_text, blames_text}
use Rattle.cards.proofs.Chains.{was_ok}
use Rattle.cards.proofs.Placing.{started_text, stopped_text, turn_on, turn_ends, turn_stops}
use Rattle.cards.proofs.calls.read_cards.Given as given
use Rattle.cards.proofs.calls.read_cards.Goals as goal

-- the equation with the definition gives the other promises
all : (g : given.Over) (input : List ℕ) (plan : Plan) (rows : List (Row g.row.N.Denot)) (st : State g.N.Arithmetic.Meaning)
    → st ≡ cards_read g.N.Arithmetic.ops input (meant_sheet g.N.Arithmetic.mean (record { plan = plan; rows = rows }))
    → record {
      accepts : Accepts g.N.Arithmetic.ops input (length rows) st.fault st.sheet;
      blames : Blames g.N.Arithmetic.ops input (length rows) (meant_sheet g.N.Arithmetic.mean (record { plan = plan; rows = rows })) st.fault st.sheet;
      reads : st ≡ cards_read g.N.Arithmetic.ops input (meant_sheet g.N.Arithmetic.mean (record { plan = plan; rows = rows }));
    }
all g input plan rows st e = record {
  accepts = accepts_text g.N.Arithmetic.ops g.N.Arithmetic.mean input plan rows st e;
  blames = blames_text g.N.Arithmetic.ops g.N.Arithmetic.mean input plan rows st e;
  reads = e;
}

pub returns-in_err-map_err : goal.returns-in_err-map_err
returns-in_err-map_err g c =
    let p = err_from_is_err_and c.from_residual.result c.from_residual.ensures.1 in
    rw (p.1, p.2)
    (all g c.args.input.now c.args.plan.now c.args.rows.now _
    (stopped_text g.N.Arithmetic.ops _ _ c.args.input.now _ c.blank.result _ c.in_err-map_err.ensures.cases (λ e k. search rules) c.blank.ensures.story))

pub loop-line-init : goal.loop-line-init
loop-line-init g c =
    let sheet = meant_sheet g.N.Arithmetic.mean (record { plan = c.blank.new.self; rows = c.blank.new.rows }) in
    record {
      comes = ap (λ (r : Reader). lines_done g.N.Arithmetic.ops r.lines (lines_left r) sheet) c.into_iter-line-iterator.ensures.into_iter_gives
          ∙ (λ i. lines_done g.N.Arithmetic.ops (c.new-line-items.ensures.lines i) (c.new-line-items.ensures.left i) sheet);
    }

pub loop-line-preserved : goal.loop-line-preserved
loop-line-preserved g c =
    let took = c.in-Some.ensures.steps in
    turn_on g.N.Arithmetic.ops _ _ _ _ _ c.loop-line.invariant _ _ _ took.left took.number _ took.counted c.in_ok-place_line.ensures

pub returns-in_err-place_line : goal.returns-in_err-place_line
returns-in_err-place_line g c =
    let o = g.N.Arithmetic.ops in
    let took = c.in-Some.ensures.steps in
    let p = err_from_is_err_and c.from_residual-in_err-place_line.result c.from_residual-in_err-place_line.ensures.1 in
    rw (p.1, p.2)
    (all g c.args.input.now c.args.plan.now c.args.rows.now _
    (turn_stops o _ _ _ _ _ c.loop-line.invariant _ _ _ took.left took.number _ c.in_err-place_line.ensures
    ∙ started_text o _ _ c.args.input.now c.blank.result (was_ok Fault c.blank.result tt c.in_ok-map_err.ensures.cases) c.blank.ensures.story))

pub returns : goal.returns
returns g c =
    let o = g.N.Arithmetic.ops in
    all g c.args.input.now c.args.plan.now c.args.rows.now _
    (turn_ends o _ _ _ (meant_sheet g.N.Arithmetic.mean (record { plan = c.loop-line.plan; rows = c.loop-line.rows })) _ c.loop-line.invariant c.in-None.ensures.steps.0
    ∙ started_text o _ _ c.args.input.now c.blank.result (was_ok Fault c.blank.result tt c.in_ok-map_err.ensures.cases) c.blank.ensures.story)
