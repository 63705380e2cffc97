use Rattle.std.proofs.Common.{◌≡◌, get_or, ap, ◌∙◌, arith}
use Rattle.sheet.specs.declared.kind.Kind.TheVariants.{Resistor}
use Rattle.sheet.specs.declared.plan.Plan.{Plan}
use Rattle.graphs.specs.Greedy.{kept, greedy, in_order, members, of_class}
use Rattle.networks.specs.Networks.{kind_class, graph_of, placed, class_at}
use Rattle.topology.specs.Trees.{tree_set}
use Rattle.networks.specs.Words.{bits}
use Rattle.networks.proofs.Networks.{kinds, class_order}
use Rattle.topology.proofs.Sweeping.{class_more}
use Rattle.topology.proofs.keeping.kept_branches.Goals as goal

pub loop-kind-init : goal.loop-kind-init
unfolding kept in_order
loop-kind-init c = (c.none_of-kept.ensures.plan, c.none_of-kept.ensures.word)

pub loop-kind-preserved : goal.loop-kind-preserved
loop-kind-preserved c =
    let p = c.args.plan.now in (
      c.swept-kept.ensures.plan ∙ c.loop-kind.invariant.0,
      class_more (graph_of p) (class_at p) (placed p)
          (bits c.loop-kind.kept.word) (bits c.swept-kept.result.word) c.loop-kind.kind-index c.loop-kind.invariant.1
          (c.swept-kept.ensures.word
          ∙ ap (λ (q : Plan). kept (graph_of q) 32 (members (of_class (class_at q) (kind_class (get_or kinds c.loop-kind.kind-index Resistor)) (placed q)) 32) (bits c.loop-kind.kept.word)) c.loop-kind.invariant.0
          ∙ ap (λ n. kept (graph_of p) 32 (members (of_class (class_at p) n (placed p)) 32) (bits c.loop-kind.kept.word)) (class_order c.loop-kind.kind-index Resistor (omega arith))),
    )

pub returns : goal.returns
unfolding tree_set
returns c =
    let p = c.args.plan.now in
    let end : c.loop-kind.kind-index ≡ 5 = omega arith in
    c.loop-kind.invariant.1 ∙ ap (λ m. greedy (graph_of p) 32 (in_order (class_at p) (placed p) 32 m)) end
