use Rattle.std.proofs.Common.{◌≡◌, map, get_or, rules, ap, ◌∙◌, ap₂}
use Rattle.stories.specs.Assembly.{agree, entry_of}
use Rattle.topology.specs.Matrices.{entry}
use Rattle.assembly.specs.Frames.{gathered}
use Rattle.assembly.proofs.setting.Setting.entry_of.Goals as goal

pub returns : goal.returns
unfolding entry_of gathered
returns g c parts sets mt mr =
    let o = g.N.Arithmetic.ops in
    let m = g.N.Arithmetic.mean in
    let t = c.args.t in
    let r = c.args.r in
    let fr = sets.frames in
    let row = c.agreement-row.result in
    c.gather_row.ensures parts.passive (λ k. agree (parts.row t k) (parts.row r k)) parts.conductance fr.passive
    (λ k l i. c.agreement-row.ensures k ∙ ap₂ (λ a b. agree (entry a k) (entry b k)) c.cut.ensures c.cut-2.ensures ∙ ap₂ agree (fr.rows t k mt l) (fr.rows r k mr l))
    (λ k y l i called.
    let is : m y ≡ get_or (map m c.args.self.now.area.now) k o.nought = search rules in
    is ∙ sets.holds.conductance k l i)
    ∙ ap (gathered o parts.passive (λ k. agree (parts.row t k) (parts.row r k)) parts.conductance) c.zero.ensures.meaning
