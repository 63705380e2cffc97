use Rattle.graphs.specs.Graph.{◌∈◌}
use Rattle.stories.specs.Assembly.{Parts, levelled}
use Rattle.networks.specs.Words.{bits}
use Rattle.assembly.specs.Frames.{Sets}
use Rattle.assembly.proofs.Members.{Going}
use Rattle.assembly.proofs.setting.Setting.right_of.Given as goal

abbrev pub invariant-loop-v : goal.invariant-loop-v
invariant-loop-v g l =
    let o = g.N.Arithmetic.ops in
    let m = g.N.Arithmetic.mean in
    (c : Parts g.N.Arithmetic.Meaning) → Sets o m c l.self.frame.now l.self.area.now l.self.rows.now → l.t ∈ c.tree →
    Going (levelled o c l.t) c.fixed (bits l.v-iterator.left) (m l.initial.sum) (m l.sum)
