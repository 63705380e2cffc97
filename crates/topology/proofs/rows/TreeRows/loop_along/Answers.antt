use Rattle.std.proofs.Common.{eqb, sym, ap, ◌∙◌, rules}
use Rattle.std.proofs.lemmas.Bool.{both_ways, eq-eqb, or_parts}
use Rattle.graphs.specs.Cuts.{loop_row}
use Rattle.graphs.specs.Graph.{Set}
use Rattle.networks.specs.Networks.{graph_of}
use Rattle.networks.specs.Words.{bits}
use Rattle.networks.proofs.Networks.{loop_outside}
use Rattle.topology.proofs.rows.TreeRows.loop_along.Goals as goal

pub returns : goal.returns
returns c =
    let g = graph_of c.args.self.now.plan.now in
    let T = bits c.args.self.now.tree in
    let k = c.args.k in
    c.row_of.ensures (loop_row g T 32 k) (λ j x lt called. search rules)
    (λ j lt out. let apart = or_parts (T j) (eqb j k) (sym (ap (λ (S : Set). S j) (c.insert_if.ensures.within c.requires)) ∙ out) in
    loop_outside g T 32 k j (λ e. both_ways (eqb j k) apart.1 (eq-eqb j k e)) apart.0)
