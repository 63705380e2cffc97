use Rattle.std.proofs.Common.{ℕ, map, get_or, sym, ap, ◌∙◌}
use Rattle.std.proofs.lemmas.Bool.{cond-false}
use Rattle.linear.specs.Elimination.{cell}
use Rattle.assembly.proofs.Reading.{asked, place_is}
use Rattle.assembly.proofs.setting.Setting.tree_voltage.Goals as goal

pub returns : goal.returns
returns g c parts fr levels =
    let t = c.args.t in
    let o = g.N.Arithmetic.ops in
    let w = map g.N.Arithmetic.mean c.args.self.now.area.now in
    let is_other = asked t fr.fixed c.has.ensures c.if-has.false in
    c.get.ensures
    ∙ ap (λ (k : ℕ). get_or w k o.nought) (c.place.ensures ∙ ap (λ (r : ℕ). cell r c.args.unknowns) (place_is o parts c.args.self.now.frame.now fr t _ c.place_among-row.ensures))
    ∙ sym (cond-false _ _ _ is_other)
