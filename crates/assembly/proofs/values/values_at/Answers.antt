use Rattle.std.proofs.Common.{map, replicate, set, sym, ap, ◌∙◌, arith}
use Rattle.std.proofs.lemmas.List.{get_or-map, get_or-replicate, length-map}
use Rattle.networks.specs.Words.{bits}
use Rattle.networks.proofs.Firsts.{first_member}
use Rattle.assembly.proofs.Touching.{member_in, touched, all_touched, valued}
use Rattle.assembly.proofs.values.values_at.Goals as goal

pub value-requires : goal.value-requires
value-requires g c = c.requires c.in-Some.k (first_member (bits c.loop-k.k-iterator.left) 0 32 c.in-Some.k (sym c.in-Some.ensures.steps.0)).1

pub loop-k-preserved : goal.loop-k-preserved
loop-k-preserved g c = λ R x e terms.
    let o = g.N.Arithmetic.ops in
    let m = g.N.Arithmetic.mean in
    let now = map m c.loop-k.values in
    let k = c.in-Some.k in
    let took = c.in-Some.ensures.steps in
    let i = c.loop-k.invariant R x e terms in
    let member = member_in o (λ k a. x k) R _ _ now k i took.0 in
    touched o (λ k a. x k) R _ _ _ now _ k i took.0 took.1 (omega (arith, member.1, i.long, length-map (replicate 32 c.zero-zero.result) m)) (c.put.ensures ∙ ap (set now k) (terms k c.value.result member.1 member.0 c.value.ensures))

pub returns : goal.returns
returns g c = λ R x e terms.
    let o = g.N.Arithmetic.ops in
    let m = g.N.Arithmetic.mean in
    let z = c.zero-zero.result in
    let i = c.loop-k.invariant R x e terms in
    valued o R x (map m (replicate 32 z)) (map m c.loop-k.values) (omega (arith, i.long, length-map (replicate 32 z) m))
    (λ j l. get_or-map m (replicate 32 z) j z o.nought (omega arith) ∙ ap m (get_or-replicate 32 j z z l) ∙ c.zero-zero.ensures.meaning)
    (all_touched o (λ k a. x k) R _ _ _ i c.in-None.ensures.steps.0)
