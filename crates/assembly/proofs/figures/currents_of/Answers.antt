use Rattle.std.proofs.Common.{◌||◌, ap, ◌∙◌, ap₂, rules}
use mathlib.Core.Path.{fun_ext}
use Rattle.assembly.proofs.figures.currents_of.Goals as goal

pub returns : goal.returns
returns g c parts x fr h =
    c.values_at.ensures _ _ (fun_ext (λ k. c.either-used.ensures k ∙ ap₂ (λ a b. a || b) (ap (λ S. S k) fr.fixed) (ap (λ S. S k) fr.feeding)))
    (λ k y l i called. search rules)
