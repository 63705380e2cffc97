-- The frame of a plan: its words by kind, and its cut rows. Assumes nothing.
use Rattle.std.proofs.Common.{◌≡◌, ℕ, Bool, true, false, cond, not, ◌&&◌, ◌||◌, ltb, leb, is_some, Some, None, Option, sym, refl, ◌∙◌}
use Rattle.sheet.specs.declared.branch.Branch.{Branch}
use Rattle.sheet.specs.declared.kind.Kind.{Kind}
use Rattle.sheet.specs.declared.kind.Kind.TheVariants.{Resistor, Inductor, Capacitor, VoltageSource, CurrentSource}
use Rattle.sheet.specs.declared.plan.Plan.{Plan}
use Rattle.sheet.specs.Plans.{branch_at}
use Rattle.graphs.specs.Greedy.{up_to}
use Rattle.networks.specs.Networks.{kind_class, class_found, placed, class_at}
use Rattle.stories.specs.Networks.{kind_found, kind_at, is_passive, is_current, is_voltage}

-- a test of kinds is a test of places
by_kind : (p : Plan) (of : Bool → ℕ → Bool) (is : Option Kind → Bool) → ((c : ℕ) → of false c ≡ false) → is None ≡ false → ((x : Kind) → of true (kind_class x) ≡ is (Some x)) → (k : ℕ) → of (placed p k) (class_at p k) ≡ is (kind_at p k)
unfolding placed class_at kind_at
by_kind p of is absent none each k = go (ltb k 32) (branch_at p k)
  where
    go : (b : Bool) (f : Option Branch) → of (b && is_some f) (class_found f) ≡ is (cond b (kind_found f) None)
    go true None = absent 5 ∙ sym none
    go true (Some x) = each x.kind
    go false f = absent (class_found f) ∙ sym none

passive_kind : (x : Kind) → ((true && leb (kind_class x) 3) && not (true && leb (kind_class x) 0)) ≡ is_passive (Some x)
passive_kind Resistor = refl
passive_kind Inductor = refl
passive_kind Capacitor = refl
passive_kind VoltageSource = refl
passive_kind CurrentSource = refl

feeding_kind : (x : Kind) → (true && not (true && leb (kind_class x) 0)) ≡ (is_passive (Some x) || is_current (Some x))
feeding_kind Resistor = refl
feeding_kind Inductor = refl
feeding_kind Capacitor = refl
feeding_kind VoltageSource = refl
feeding_kind CurrentSource = refl

fixed_kind : (x : Kind) → (true && leb (kind_class x) 0) ≡ is_voltage (Some x)
fixed_kind Resistor = refl
fixed_kind Inductor = refl
fixed_kind Capacitor = refl
fixed_kind VoltageSource = refl
fixed_kind CurrentSource = refl

pub passive_is : (p : Plan) (k : ℕ) → (up_to (class_at p) 3 (placed p) k && not (up_to (class_at p) 0 (placed p) k)) ≡ is_passive (kind_at p k)
passive_is p = by_kind p (λ b c. (b && leb c 3) && not (b && leb c 0)) is_passive (λ c. refl) refl passive_kind

pub feeding_is : (p : Plan) (k : ℕ) → (placed p k && not (up_to (class_at p) 0 (placed p) k)) ≡ (is_passive (kind_at p k) || is_current (kind_at p k))
feeding_is p = by_kind p (λ b c. b && not (b && leb c 0)) (λ f. is_passive f || is_current f) (λ c. refl) refl feeding_kind

pub fixed_is : (p : Plan) (k : ℕ) → up_to (class_at p) 0 (placed p) k ≡ is_voltage (kind_at p k)
fixed_is p = by_kind p (λ b c. b && leb c 0) is_voltage (λ c. refl) refl fixed_kind
