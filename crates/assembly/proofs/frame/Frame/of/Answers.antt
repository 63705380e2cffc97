use Rattle.std.proofs.Common.{refl, ap, ◌∙◌, ap₂, subst}
use mathlib.Core.Path.{fun_ext}
use Rattle.graphs.specs.Graph.{Set}
use Rattle.sheet.specs.declared.plan.Plan.{Plan}
use Rattle.topology.specs.Trees.{CutsOf}
use Rattle.networks.specs.Words.{bits, except}
use Rattle.assembly.proofs.Framing.{passive_is, feeding_is, fixed_is}
use Rattle.assembly.proofs.frame.Frame.of.Goals as goal

pub returns : goal.returns
returns c =
    let p = c.args.plan.now in
    record {
      passive = c.less.ensures ∙ ap₂ except c.no_current_sources-resting.ensures c.voltage_sources-fixed.ensures ∙ fun_ext (passive_is p);
      feeding = c.less-2.ensures ∙ ap₂ except c.placed_branches-placed.ensures c.voltage_sources-fixed.ensures ∙ fun_ext (feeding_is p);
      fixed = c.voltage_sources-fixed.ensures ∙ fun_ext (fixed_is p);
      tree = refl;
      unknown = c.less-3.ensures ∙ ap (except (bits c.args.tree)) (c.voltage_sources-fixed.ensures ∙ fun_ext (fixed_is p));
      link = c.less-4.ensures ∙ ap (λ (S : Set). except S (bits c.args.tree)) c.placed_branches-placed.ensures;
      cuts = subst (λ (q : Plan). CutsOf q c.args.tree c.of.result.cuts) c.of.ensures.plan (subst (λ t. CutsOf c.of.result.plan.now t c.of.result.cuts) c.of.ensures.tree c.of.result.are);
    }
