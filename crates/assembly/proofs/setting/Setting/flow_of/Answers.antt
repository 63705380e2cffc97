use Rattle.std.proofs.Common.{sym, ◌∙◌, ap₂, arith}
use Rattle.std.proofs.lemmas.Bool.{or_right}
use Rattle.assembly.proofs.Filling.{flow_passive, flow_other, passive_in}
use Rattle.assembly.proofs.setting.Setting.flow_of.Goals as goal

pub returns-then-has : goal.returns-then-has
returns-then-has g c parts x fr holds h m =
    let o = g.N.Arithmetic.ops in
    let f = c.args.self.now.frame.now in
    let k = c.args.k in
    let yes_passive = sym c.has.ensures ∙ c.if-has.true in
    c.sum.ensures.meaning
    ∙ ap₂ o.add
    (c.product.ensures.meaning ∙ ap₂ o.mul (c.get.ensures ∙ holds.conductance k (omega arith) (passive_in o parts f fr x k yes_passive)) (c.get-then-has.ensures ∙ h.each k (omega arith) (or_right (parts.fixed k) (parts.feeding k) m)))
    (c.get-feed.ensures ∙ holds.feed k (omega arith) m)
    ∙ flow_passive o parts f fr x k yes_passive

pub returns-else-has : goal.returns-else-has
returns-else-has g c parts x fr holds h m =
    c.get-feed.ensures ∙ holds.feed c.args.k (omega arith) m
    ∙ flow_other g.N.Arithmetic.ops parts c.args.self.now.frame.now fr x c.args.k (sym c.has.ensures ∙ c.if-has.false)
