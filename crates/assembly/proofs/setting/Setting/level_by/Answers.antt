use Rattle.std.proofs.Common.{◌≡◌, map, get_or, rules, ap, ◌∙◌, ap₂}
use Rattle.graphs.specs.Cuts.{turned}
use Rattle.stories.specs.Assembly.{agree, levelled}
use Rattle.topology.specs.Matrices.{entry}
use Rattle.assembly.specs.Frames.{gathered}
use Rattle.assembly.proofs.setting.Setting.level_by.Goals as goal

pub returns : goal.returns
unfolding levelled gathered
returns g c parts sets mt lt is_fixed =
    let o = g.N.Arithmetic.ops in
    let m = g.N.Arithmetic.mean in
    let t = c.args.t in
    let v = c.args.v in
    let fr = sets.frames in
    let both = c.agreement.result in
    let row = c.turn_row-row.result in
    let level = c.level-level.ensures ∙ sets.levels v lt is_fixed in
    c.gather_row.ensures parts.passive (λ k. turned (agree (parts.row t k) (parts.row v k))) (λ k. o.mul (parts.conductance k) (parts.level v)) fr.passive
    (λ k l i. c.turn_row-row.ensures k ∙ ap turned (c.agreement.ensures k ∙ ap₂ (λ a b. agree (entry a k) (entry b k)) c.cut.ensures c.cut-2.ensures ∙ ap₂ agree (fr.rows t k mt l) (fr.rows v k (fr.fixed_in v is_fixed) l)))
    (λ k y l i called.
    let is : m y ≡ o.mul (get_or (map m c.args.self.now.area.now) k o.nought) (m c.level-level.result) = search rules in
    is ∙ ap₂ o.mul (sets.holds.conductance k l i) level)
