use Rattle.std.proofs.Common.{◌^◌, ◌<◌, map, get_or, sym, ◌∙◌, subst, arith}
use Rattle.graphs.specs.Graph.{Set}
use Rattle.graphs.specs.Labels.{merge}
use Rattle.networks.specs.Networks.{graph_of, Labelled}
use Rattle.networks.specs.Words.{bits}
use Rattle.networks.proofs.Bits.{bits_below}
use Rattle.networks.proofs.Growing.{labelled_with}
use Rattle.networks.proofs.Networks.{tail_node, head_node}
use Rattle.topology.proofs.keeping.Kept.offered.Goals as goal

pub invariant_of-result : goal.invariant_of-result
invariant_of-result c =
    let p = c.args.self.plan.now in
    let k = c.args.k in
    let ls = c.args.self.labels.of in
    let fits : c.args.self.word < 2 ^ 32 = omega arith in
    record {
      joined =
          subst (Labelled (graph_of p) (bits c.insert_if.result) 32)
          (sym (c.join.ensures ∙ (λ i. map (merge (get_or ls (c.tail-tail.ensures i) 0) (get_or ls (c.head-head.ensures i) 0)) ls)))
          (subst (λ (S : Set). Labelled (graph_of p) S 32 (map (merge (get_or ls ((graph_of p).tail k) 0) (get_or ls ((graph_of p).head k) 0)) ls)) (sym (c.insert_if.ensures.within c.requires))
          (labelled_with (graph_of p) (bits c.args.self.word) k ls (bits_below c.args.self.word fits) c.requires (tail_node p k) (head_node p k) c.args.self.joined));
    }
