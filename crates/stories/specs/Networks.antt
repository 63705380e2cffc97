-- The kinds of a plan's branches. Assumes nothing.
--
-- kind_found     the kind of what stands at a place, if anything does
-- kind_at p      the kind of the branch at a place, 0 to 31, if there is one
-- is_voltage, is_current, is_passive
--                it is a voltage source; a current source; a resistor, an inductor or a capacitor
-- any S n        some number below n is in S
use Rattle.std.specs.Prelude.{ℕ, zero, suc, Bool, true, false, cond, ◌||◌, Some, None, Option, nat_lt}
use Rattle.sheet.specs.declared.branch.Branch.{Branch}
use Rattle.sheet.specs.declared.kind.Kind.{Kind}
use Rattle.sheet.specs.declared.kind.Kind.TheVariants.{Resistor, Inductor, Capacitor, VoltageSource, CurrentSource}
use Rattle.sheet.specs.declared.plan.Plan.{Plan}
use Rattle.sheet.specs.Plans.{branch_at}
use Rattle.graphs.specs.Graph.{Set}

abbrev pub kind_found : Option Branch → Option Kind
kind_found None = None
kind_found (Some b) = Some b.kind

unfoldable pub kind_at : Plan → ℕ → Option Kind
kind_at p k = cond (nat_lt k 32) (kind_found (branch_at p k)) None

abbrev pub is_voltage : Option Kind → Bool
is_voltage None = false
is_voltage (Some Resistor) = false
is_voltage (Some Inductor) = false
is_voltage (Some Capacitor) = false
is_voltage (Some VoltageSource) = true
is_voltage (Some CurrentSource) = false

abbrev pub is_current : Option Kind → Bool
is_current None = false
is_current (Some Resistor) = false
is_current (Some Inductor) = false
is_current (Some Capacitor) = false
is_current (Some VoltageSource) = false
is_current (Some CurrentSource) = true

abbrev pub is_passive : Option Kind → Bool
is_passive None = false
is_passive (Some Resistor) = true
is_passive (Some Inductor) = true
is_passive (Some Capacitor) = true
is_passive (Some VoltageSource) = false
is_passive (Some CurrentSource) = false

unfoldable pub any : Set → ℕ → Bool
any S zero = false
any S (suc n) = S n || any S n
