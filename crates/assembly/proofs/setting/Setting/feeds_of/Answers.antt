use Rattle.std.proofs.Common.{◌≡◌, ◌+◌, map, get_or, rules, ap, ◌∙◌}
use Rattle.graphs.specs.Cuts.{turned}
use Rattle.stories.specs.Assembly.{fed}
use Rattle.topology.specs.Matrices.{entry}
use Rattle.assembly.specs.Frames.{gathered}
use Rattle.assembly.proofs.setting.Setting.feeds_of.Goals as goal

pub returns : goal.returns
unfolding fed gathered
returns g c parts sets mt =
    let o = g.N.Arithmetic.ops in
    let m = g.N.Arithmetic.mean in
    let t = c.args.t in
    let fr = sets.frames in
    let row = c.turn_row-row.result in
    c.gather_row.ensures parts.feeding (λ k. turned (parts.row t k)) parts.feed fr.feeding
    (λ k l i. c.turn_row-row.ensures k ∙ ap (λ a. turned (entry a k)) c.cut.ensures ∙ ap turned (fr.rows t k mt l))
    (λ k y l i called.
    let is : m y ≡ get_or (map m c.args.self.now.area.now) (32 + k) o.nought = search rules in
    is ∙ sets.holds.feed k l i)
    ∙ ap (gathered o parts.feeding (λ k. turned (parts.row t k)) parts.feed) c.zero.ensures.meaning
