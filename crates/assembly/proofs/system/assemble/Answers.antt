use Rattle.std.proofs.Common.{refl, ap, ◌∙◌}
use Rattle.stories.specs.Assembly.{with_row}
use Rattle.networks.specs.Words.{bits}
use Rattle.assembly.specs.Frames.{system_of}
use Rattle.assembly.proofs.Members.{begun, taken_in, goes_on, ended}
use Rattle.assembly.proofs.Reading.{counted, row_kept}
use Rattle.assembly.proofs.system.assemble.Goals as goal

pub loop-t-init : goal.loop-t-init
loop-t-init g c parts sets = (begun (with_row g.N.Arithmetic.ops parts) parts.unknown _ _ _ (ap (λ i. bits i.left) c.into_iter-t-iterator.ensures.into_iter_gives ∙ ap bits c.members_of-t-items.ensures ∙ sets.frames.unknown) refl, sets.holds)

pub loop-t-preserved : goal.loop-t-preserved
loop-t-preserved g c parts sets =
    let o = g.N.Arithmetic.ops in
    let f = with_row o parts in
    let took = c.in-Some.ensures.steps in
    let i = c.loop-t.invariant parts sets in
    let m = taken_in f parts.unknown _ _ _ _ i.0 took.0 in
    let put = c.write_row.ensures parts (record { frames = sets.frames; holds = i.1; levels = sets.levels }) m.0 in
    (goes_on f parts.unknown _ _ _ _ _ _ i.0 took.0 took.1 put, row_kept o parts _ _ _ i.1 put)

pub returns : goal.returns
unfolding system_of
returns g c = record {
  unknowns = c.place_among.ensures ∙ counted (bits c.args.frame.now.unknown) 32;
  system = λ parts frames holds levels.
      ended (with_row g.N.Arithmetic.ops parts) parts.unknown _ _ _ (c.loop-t.invariant parts (record { frames = frames; holds = holds; levels = levels })).0 c.in-None.ensures.steps.0;
}
