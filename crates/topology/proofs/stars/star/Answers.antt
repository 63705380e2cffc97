use Rattle.std.proofs.Common.{◌≡◌, refl, ◌∙◌, subst, arith}
use Rattle.std.proofs.lemmas.List.{length-set}
use Rattle.topology.specs.Stars.{Star}
use Rattle.topology.proofs.Crossing.{star_none, star_more}
use Rattle.topology.proofs.stars.star.Goals as goal

pub loop-k-init : goal.loop-k-init
loop-k-init g c = (refl, λ e says. star_none e)

pub loop-k-preserved : goal.loop-k-preserved
loop-k-preserved g c = (
  length-set c.loop-k.words c.end-node.result.number c.insert_if.result ∙ c.loop-k.invariant.0,
  λ e says.
      star_more e c.loop-k.k c.end-node.result.number c.insert_if.result c.loop-k.words c.loop-k.invariant.0 (c.loop-k.invariant.1 e says) (says _ _ (omega arith) c.end-node.ensures) c.end-node.result.within (c.insert_if.ensures.within (omega arith)),
)

pub returns : goal.returns
returns g c = λ e says.
    let end : c.loop-k.k ≡ 32 = omega arith in
    subst (λ n. Star e n c.loop-k.words) end (c.loop-k.invariant.1 e says)
