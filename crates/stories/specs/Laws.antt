-- The laws that a list of currents and voltages of the placed branches obeys in a step of length h. Assumes nothing.
--
-- signed s x     x, nothing or its negative
-- leaving x i    the currents at the node x: those that leave it less those that enter it
-- Law            the law of one branch, from its kind, its row before the step, its current i and voltage u
-- Live           currents at each node sum to zero; some figure for each node gives each voltage as the tail's less the head's; each branch obeys its law
-- stilled        a row with old figures and a source's value at zero
-- Dead           a list that is live on the stilled rows
-- AllZero        a list that is zero at every placed branch
use Rattle.std.specs.Prelude.{◌≡◌, ℕ, ◌<◌, cond, Some, None, Option}
use Rattle.arithmetic.specs.Ops.{Ops}
use Rattle.sheet.specs.declared.kind.Kind.{Kind}
use Rattle.sheet.specs.declared.kind.Kind.TheVariants.{Resistor, Inductor, Capacitor, VoltageSource, CurrentSource}
use Rattle.sheet.specs.declared.plan.Plan.{Plan}
use Rattle.sheet.specs.declared.row.Row.{Row}
use Rattle.graphs.specs.Graph.{◌∈◌, Sign, plus, none, minus}
use Rattle.graphs.specs.Cuts.{incidence}
use Rattle.linear.specs.Systems.{sum}
use Rattle.networks.specs.Networks.{graph_of, placed}
use Rattle.stories.specs.Networks.{kind_at}

abbrev pub signed : {M : Type 0} → Ops M → Sign → M → M
signed o plus x = x
signed o none x = o.nought
signed o minus x = o.neg x

abbrev pub leaving : {M : Type 0} → Ops M → Plan → (ℕ → M) → ℕ → M
leaving o p i x = sum o 32 (λ k. cond (placed p k) (signed o (incidence (graph_of p) x k) (i k)) o.nought)

abbrev pub Law : {M : Type 0} → Ops M → M → Option Kind → Row M → M → M → Type 0
Law o h None r i u = Unit {0}
Law o h (Some Resistor) r i u = u ≡ o.mul r.value i
Law o h (Some Inductor) r i u = o.mul r.value (o.sub i r.current) ≡ o.mul h u
Law o h (Some Capacitor) r i u = o.mul h i ≡ o.mul r.value (o.sub u r.voltage)
Law o h (Some VoltageSource) r i u = u ≡ r.value
Law o h (Some CurrentSource) r i u = i ≡ r.value

pub record Live {M : Type 0} (o : Ops M) (p : Plan) (at : ℕ → Row M) (h : M) (i u : ℕ → M) : Type 0 where
  pub nodes : (x : ℕ) → x < 16 → leaving o p i x ≡ o.nought
  pub figures : (f : ℕ → M) × ((k : ℕ) → k ∈ placed p → u k ≡ o.sub (f ((graph_of p).tail k)) (f ((graph_of p).head k)))
  pub branches : (k : ℕ) → k ∈ placed p → Law o h (kind_at p k) (at k) (i k) (u k)

abbrev pub stilled : {M : Type 0} → Ops M → Option Kind → Row M → Row M
stilled o None r = r
stilled o (Some Resistor) r = record { value = r.value; start = r.start; current = o.nought; voltage = o.nought }
stilled o (Some Inductor) r = record { value = r.value; start = r.start; current = o.nought; voltage = o.nought }
stilled o (Some Capacitor) r = record { value = r.value; start = r.start; current = o.nought; voltage = o.nought }
stilled o (Some VoltageSource) r = record { value = o.nought; start = r.start; current = o.nought; voltage = o.nought }
stilled o (Some CurrentSource) r = record { value = o.nought; start = r.start; current = o.nought; voltage = o.nought }

abbrev pub Dead : {M : Type 0} → Ops M → Plan → (ℕ → Row M) → M → (ℕ → M) → (ℕ → M) → Type 0
Dead o p at h i u = Live o p (λ k. stilled o (kind_at p k) (at k)) h i u

abbrev pub AllZero : {M : Type 0} → Ops M → Plan → (ℕ → M) → (ℕ → M) → Type 0
AllZero o p i u = (k : ℕ) → k ∈ placed p → (i k ≡ o.nought) × (u k ≡ o.nought)
