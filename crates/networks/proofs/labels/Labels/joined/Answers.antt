use Rattle.std.proofs.Common.{◌≡◌, ◌^◌, ◌<◌, map, get_or, sym, ap, ◌∙◌, subst, arith, rules}
use Rattle.std.proofs.lemmas.Bool.{and_parts}
use Rattle.graphs.specs.Graph.{Set, empty}
use Rattle.graphs.specs.Labels.{merge}
use Rattle.networks.specs.Networks.{graph_of, Labelled}
use Rattle.networks.specs.Words.{bits, except}
use Rattle.networks.proofs.Bits.{bits_below}
use Rattle.networks.proofs.Firsts.{first_member, first-none}
use Rattle.networks.proofs.Growing.{labelled_apart, taking_all, taking_one, taking_none}
use Rattle.networks.proofs.Networks.{tail_node, head_node}
use Rattle.networks.proofs.labels.Labels.joined.Goals as goal

pub loop-k-init : goal.loop-k-init
loop-k-init c =
    let g = graph_of c.args.plan.now in
    let W = bits c.args.word in
    let start : c.into_iter-k-iterator.result.left ≡ c.args.word = search rules in (
      λ k m. ap (λ w. bits w k) (sym start) ∙ m,
      subst (λ w. Labelled g (except W (bits w)) 32 c.apart-labels.result.of) (sym start)
          (taking_all g W _ (subst (Labelled g empty 32) (sym c.apart-labels.ensures) (labelled_apart g 32))),
    )

pub loop-k-preserved : goal.loop-k-preserved
loop-k-preserved c =
    let p = c.args.plan.now in
    let g = graph_of p in
    let W = bits c.args.word in
    let L = bits c.loop-k.k-iterator.left in
    let ls = c.loop-k.labels.of in
    let k = c.in-Some.k in
    let took = c.in-Some.ensures.steps in
    let found = first_member L 0 32 k (sym took.0) in
    let fits : c.args.word < 2 ^ 32 = omega arith in (
      λ j m. c.loop-k.invariant.0 j (and_parts (L j) _ (sym (ap (λ (S : Set). S j) took.1) ∙ m)).0,
      subst (λ (S : Set). Labelled g (except W S) 32 c.join.new.self.of) (sym took.1)
          (subst (Labelled g _ 32) (sym (c.join.ensures ∙ (λ i. map (merge (get_or ls (c.tail.ensures i) 0) (get_or ls (c.head.ensures i) 0)) ls)))
          (taking_one g W ls L k (bits_below c.args.word fits) (c.loop-k.invariant.0 k found.0) found.1 (tail_node p k) (head_node p k) c.loop-k.invariant.1)),
    )

pub returns : goal.returns
returns c =
    let fits : c.args.word < 2 ^ 32 = omega arith in
    taking_none (graph_of c.args.plan.now) (bits c.args.word) _ _ (bits_below c.args.word fits) (λ j l. first-none _ 0 32 j (sym c.in-None.ensures.steps.0) (omega arith) l) c.loop-k.invariant.1
