use Rattle.std.proofs.Common.{◌≡◌, map, get_or, rules, sym, ap, ◌∙◌, arith}
use Rattle.graphs.specs.Cuts.{turned}
use Rattle.stories.specs.Steps.{flow_of}
use Rattle.topology.specs.Matrices.{entry}
use Rattle.assembly.specs.Frames.{gathered}
use Rattle.assembly.proofs.Filling.{current_fixed, current-other}
use Rattle.assembly.proofs.Reading.{asked}
use Rattle.assembly.proofs.figures.current_of.Goals as goal

pub returns-then-has : goal.returns-then-has
returns-then-has g c parts x fr h u =
    let o = g.N.Arithmetic.ops in
    let m = g.N.Arithmetic.mean in
    let k = c.args.k in
    let row = c.turn_row-row.result in
    let is_fixed = asked k fr.fixed c.has.ensures c.if-has.true in
    c.gather_row.ensures parts.link (λ j. turned (parts.row k j)) (flow_of o parts x) fr.link
    (λ j l i. c.turn_row-row.ensures j ∙ ap (λ a. turned (entry a j)) c.cut.ensures ∙ ap turned (fr.rows k j (fr.fixed_in k is_fixed) l))
    (λ j y l i called.
    let is : m y ≡ get_or (map m c.args.flows.now) j o.nought = search rules in
    is ∙ h.each j l (fr.link_in j i))
    ∙ ap (gathered o parts.link (λ j. turned (parts.row k j)) (flow_of o parts x)) c.zero.ensures.meaning
    ∙ current_fixed o parts x k is_fixed

pub returns-else-has : goal.returns-else-has
returns-else-has g c parts x fr h m =
    c.get.ensures ∙ current-other g.N.Arithmetic.ops parts c.args.frame.now fr x c.args.k _ (omega arith) (sym c.has.ensures ∙ c.if-has.false) h m
