use Rattle.std.proofs.Common.{◌≡◌, ◌||◌, is_some, Some, None, Option, sym, refl, ◌∙◌}
use mathlib.Core.Path.{fun_ext}
use Rattle.sheet.specs.declared.kind.Kind.{Kind}
use Rattle.sheet.specs.declared.kind.Kind.TheVariants.{Resistor, Inductor, Capacitor, VoltageSource, CurrentSource}
use Rattle.stories.specs.Networks.{kind_at, is_voltage, is_current, is_passive}
use Rattle.stories.proofs.Networks.{placed_kind}
use Rattle.stepping.proofs.framed.Framed.placed.Goals as goal

either_part : (f : Option Kind) → ((is_passive f || is_current f) || is_voltage f) ≡ is_some f
either_part None = refl
either_part (Some Resistor) = refl
either_part (Some Inductor) = refl
either_part (Some Capacitor) = refl
either_part (Some VoltageSource) = refl
either_part (Some CurrentSource) = refl

pub returns : goal.returns
returns c =
    let self = c.args.self.now in
    let p = self.plan.now in
    fun_ext (λ k. c.either.ensures k ∙ (λ i. self.is.feeding i k || self.is.fixed i k) ∙ either_part (kind_at p k) ∙ sym (placed_kind p k))
