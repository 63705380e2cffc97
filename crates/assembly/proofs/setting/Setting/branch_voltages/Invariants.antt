use Rattle.std.proofs.Common.{map}
use Rattle.stories.specs.Assembly.{Parts}
use Rattle.networks.specs.Words.{bits}
use Rattle.assembly.specs.Figures.{found}
use Rattle.assembly.specs.Frames.{Frames, Levels, levels_of}
use Rattle.assembly.proofs.Linking.{Linking}
use Rattle.assembly.proofs.setting.Setting.branch_voltages.Given as goal

abbrev pub invariant-loop-t : goal.invariant-loop-t
invariant-loop-t g l =
    let o = g.N.Arithmetic.ops in
    let m = g.N.Arithmetic.mean in
    (c : Parts g.N.Arithmetic.Meaning) → Frames c l.self.frame.now → Levels c (levels_of o m l.self.rows.now) →
    Linking o c (found o (map m l.self.area.now) l.unknowns) (bits l.t-iterator.left) (map m l.voltages)
