use Rattle.std.proofs.Common.{refl, ap, ◌∙◌}
use Rattle.networks.specs.Words.{bits}
use Rattle.assembly.specs.Frames.{entered}
use Rattle.assembly.proofs.Members.{begun, taken_in, goes_on, ended}
use Rattle.assembly.proofs.Reading.{entry_put, entry-kept}
use Rattle.assembly.proofs.system.write_entries.Goals as goal

pub loop-r-init : goal.loop-r-init
loop-r-init g c parts sets mt = (begun (entry_put g.N.Arithmetic.ops parts c.args.t) parts.unknown _ _ _ (ap (λ i. bits i.left) c.into_iter-r-iterator.ensures.into_iter_gives ∙ ap bits c.members_of-r-items.ensures ∙ sets.frames.unknown) refl, sets.holds)

pub loop-r-preserved : goal.loop-r-preserved
loop-r-preserved g c parts sets mt =
    let o = g.N.Arithmetic.ops in
    let f = entry_put o parts c.args.t in
    let took = c.in-Some.ensures.steps in
    let i = c.loop-r.invariant parts sets mt in
    let m = taken_in f parts.unknown _ _ _ _ i.0 took.0 in
    let put = c.write_entry.ensures parts (record { frames = sets.frames; holds = i.1; levels = sets.levels }) mt m.0 in
    (goes_on f parts.unknown _ _ _ _ _ _ i.0 took.0 took.1 put, entry-kept o parts c.args.t _ _ _ i.1 put)

pub returns : goal.returns
unfolding entered
returns g c parts sets mt =
    ended (entry_put g.N.Arithmetic.ops parts c.args.t) parts.unknown _ _ _ (c.loop-r.invariant parts sets mt).0 c.in-None.ensures.steps.0
