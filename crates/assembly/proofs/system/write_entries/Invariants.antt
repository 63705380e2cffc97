use Rattle.std.proofs.Common.{map}
use Rattle.graphs.specs.Graph.{◌∈◌}
use Rattle.stories.specs.Assembly.{Parts}
use Rattle.networks.specs.Words.{bits}
use Rattle.assembly.specs.Frames.{Holds, Sets}
use Rattle.assembly.proofs.Members.{Going}
use Rattle.assembly.proofs.Reading.{entry_put}
use Rattle.assembly.proofs.system.write_entries.Given as goal

abbrev pub invariant-loop-r : goal.invariant-loop-r
invariant-loop-r g l =
    let o = g.N.Arithmetic.ops in
    let m = g.N.Arithmetic.mean in
    (c : Parts g.N.Arithmetic.Meaning) → Sets o m c l.frame l.initial.area l.rows → l.t ∈ c.tree →
    Going (entry_put o c l.t) c.unknown (bits l.r-iterator.left) (map m l.initial.area) (map m l.area) × Holds o c (map m l.area)
