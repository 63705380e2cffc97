use Rattle.std.proofs.Common.{refl, ap, ◌∙◌, rules}
use Rattle.graphs.specs.Greedy.{kept, of_class, members}
use Rattle.topology.specs.declared.keeping.Kept.{Kept}
use Rattle.networks.specs.Networks.{kind_class, graph_of, placed, class_at}
use Rattle.networks.specs.Words.{bits}
use Rattle.topology.proofs.Sweeping.{sweep_more}
use Rattle.topology.proofs.keeping.Kept.swept.Goals as goal
use Rattle.topology.proofs.keeping.Kept.swept.Goals.{then-is_of_kind, else-is_of_kind}

pub loop-k-init : goal.loop-k-init
unfolding kept members
loop-k-init c = (refl, refl)

pub loop-k-preserved : goal.loop-k-preserved
loop-k-preserved c =
    let p = c.args.self.plan.now in (
      elim c.if-is_of_kind.branch [
        | then-is_of_kind w ↦ ap (λ (x : Kept). x.plan.now) w.kept-is ∙ w.offered-kept.ensures.plan ∙ c.loop-k.invariant.0
        | else-is_of_kind w ↦ ap (λ (x : Kept). x.plan.now) w.kept-is ∙ c.loop-k.invariant.0
      ],
      sweep_more (graph_of p) (of_class (class_at p) (kind_class c.args.kind) (placed p))
          (bits c.args.self.word) (bits c.loop-k.kept.word) (bits c.if-is_of_kind.kept.word) c.loop-k.k c.loop-k.invariant.1
          (elim c.if-is_of_kind.branch [ then-is_of_kind w ↦ search rules | else-is_of_kind w ↦ search rules ]),
    )
