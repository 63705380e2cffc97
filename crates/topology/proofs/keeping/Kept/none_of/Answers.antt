use Rattle.std.proofs.Common.{sym, subst}
use mathlib.Core.Path.{fun_ext}
use Rattle.graphs.specs.Graph.{Set, empty}
use Rattle.networks.specs.Networks.{graph_of, Labelled}
use Rattle.networks.proofs.Bits.{bits_zero}
use Rattle.networks.proofs.Growing.{labelled_apart}
use Rattle.topology.proofs.keeping.Kept.none_of.Goals as goal

pub invariant_of-result : goal.invariant_of-result
invariant_of-result c =
    let g = graph_of c.args.plan.now in
    record {
      joined =
          subst (λ (S : Set). Labelled g S 32 c.apart.result.of) (sym (fun_ext bits_zero))
          (subst (Labelled g empty 32) (sym c.apart.ensures) (labelled_apart g 32));
    }

pub returns-clause-word : goal.returns-clause-word
returns-clause-word c = fun_ext bits_zero
