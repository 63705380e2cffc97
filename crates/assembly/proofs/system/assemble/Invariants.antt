use Rattle.std.proofs.Common.{map}
use Rattle.stories.specs.Assembly.{Parts, with_row}
use Rattle.networks.specs.Words.{bits}
use Rattle.assembly.specs.Frames.{Holds, Sets}
use Rattle.assembly.proofs.Members.{Going}
use Rattle.assembly.proofs.system.assemble.Given as goal

abbrev pub invariant-loop-t : goal.invariant-loop-t
invariant-loop-t g l =
    let o = g.N.Arithmetic.ops in
    let m = g.N.Arithmetic.mean in
    (c : Parts g.N.Arithmetic.Meaning) → Sets o m c l.frame l.initial.area l.rows →
    Going (with_row o c) c.unknown (bits l.t-iterator.left) (map m l.initial.area) (map m l.area) × Holds o c (map m l.area)
