use Rattle.std.proofs.Common.{◌≡◌, map, sym, refl, ap, ◌∙◌, rules}
use Rattle.std.proofs.lemmas.Bool.{cond-true}
use Rattle.graphs.specs.Graph.{Set}
use Rattle.networks.specs.Words.{bits}
use Rattle.networks.proofs.Firsts.{first_member}
use Rattle.sheet.specs.Meanings.{meant_row}
use Rattle.stories.specs.Assembly.{through}
use Rattle.stories.specs.Steps.{row_at}
use Rattle.assembly.proofs.Members.{turn, begun, taken_in, goes_on, ended}
use Rattle.stepping.proofs.Companions.{storing}
use Rattle.stepping.proofs.companion.store_companions.Goals as goal

pub loop-k-init : goal.loop-k-init
loop-k-init g c =
    let o = g.N.Arithmetic.ops in
    let m = g.N.Arithmetic.mean in
    let framed = c.args.framed.now in
    let f = storing o framed.plan.now (m c.args.h) (row_at o (map (meant_row m) c.args.rows.now)) in
    let start : c.into_iter-k-iterator.result.left ≡ framed.frame.feeding = search rules in
    begun f _ _ _ _ (ap bits start) refl

pub store_companion-requires : goal.store_companion-requires
store_companion-requires g c =
    let found = first_member (bits c.loop-k.k-iterator.left) 0 32 c.in-Some.k (sym c.in-Some.ensures.steps.0) in
    search (rules, found.1)

pub loop-k-preserved : goal.loop-k-preserved
loop-k-preserved g c =
    let o = g.N.Arithmetic.ops in
    let m = g.N.Arithmetic.mean in
    let framed = c.args.framed.now in
    let f = storing o framed.plan.now (m c.args.h) (row_at o (map (meant_row m) c.args.rows.now)) in
    let took = c.in-Some.ensures.steps in
    let k = c.in-Some.k in
    let feeding = bits framed.frame.feeding in
    goes_on f feeding _ _ _ _ _ k c.loop-k.invariant took.0 took.1
    (c.store_companion.ensures
    ∙ ap (λ (S : Set). turn f S k (map m c.loop-k.area)) (sym framed.is.feeding)
    ∙ cond-true (feeding k) (f k (map m c.loop-k.area)) (map m c.loop-k.area) (taken_in f feeding _ _ _ k c.loop-k.invariant took.0).0)

pub returns : goal.returns
returns g c =
    let o = g.N.Arithmetic.ops in
    let m = g.N.Arithmetic.mean in
    let framed = c.args.framed.now in
    let f = storing o framed.plan.now (m c.args.h) (row_at o (map (meant_row m) c.args.rows.now)) in
    ended f (bits framed.frame.feeding) _ _ _ c.loop-k.invariant c.in-None.ensures.steps.0
    ∙ ap (λ (S : Set). through (turn f S) 32 (map m c.args.area.now)) framed.is.feeding
