-- The kinds of the branches of a plan, and how many a tree of it has. Assumes nothing.
use Rattle.std.proofs.Common.{◌≡◌, ℕ, zero, suc, ◌<◌, ◌≤◌, Bool, true, false, cond, not, ◌&&◌, ◌||◌, ltb, leb, is_some, Some, None, Option, sym, refl, ap, ◌∙◌, subst, inl, inr, arith}
use Rattle.std.proofs.lemmas.Bool.{cases_eq, or_parts, both_ways, eq-eqb}
use Rattle.sheet.specs.declared.branch.Branch.{Branch}
use Rattle.sheet.specs.declared.kind.Kind.{Kind}
use Rattle.sheet.specs.declared.kind.Kind.TheVariants.{Resistor, Inductor, Capacitor, VoltageSource, CurrentSource}
use Rattle.sheet.specs.declared.plan.Plan.{Plan}
use Rattle.sheet.specs.Plans.{branch_at}
use Rattle.graphs.specs.Graph.{Graph, Set, ◌∈◌, count, Tree}
use Rattle.graphs.specs.Greedy.{up_to}
use Rattle.graphs.specs.Labels.{label, own, components}
use Rattle.graphs.proofs.Joint.{theory}
use Rattle.graphs.proofs.Labels.{label-le}
use Rattle.graphs.proofs.Sets.{count-without}
use Rattle.networks.specs.Networks.{kind_class, class_found, graph_of, placed, class_at}
use Rattle.topology.proofs.Theory.{ends_placed}
use Rattle.stories.specs.Networks.{kind_found, kind_at, is_voltage, is_current, any}

-- some or none
pub any_some : (S : Set) (n : ℕ) → any S n ≡ true → (k : ℕ) × ((k < n) × (k ∈ S))
unfolding any
any_some S zero e = absurd (both_ways false refl e)
any_some S (suc n) e = go (S n) refl e (any_some S n)
  where
    go : (b : Bool) → S n ≡ b → (b || any S n) ≡ true → (any S n ≡ true → (k : ℕ) × ((k < n) × (k ∈ S))) → (k : ℕ) × ((k < suc n) × (k ∈ S))
    go true i e f = (n, (omega arith, i))
    go false i e f = let h = f e in (h.0, (omega (arith, h.1.0), h.1.1))

pub any_none : (S : Set) (n : ℕ) → any S n ≡ false → (k : ℕ) → k < n → S k ≡ false
unfolding any
any_none S zero e k h = absurd (omega arith)
any_none S (suc n) e k h =
    let parts = or_parts (S n) (any S n) e in
    elim (cases_eq k n) [ inl i ↦ ap S i ∙ parts.0 | inr d ↦ any_none S n parts.1 k (omega arith) ]

pub none_any : (S : Set) (n : ℕ) → ((k : ℕ) → k < n → S k ≡ false) → any S n ≡ false
unfolding any
none_any S zero f = refl
none_any S (suc n) f = ap (λ b. b || any S n) (f n (omega arith)) ∙ none_any S n (λ k h. f k (omega arith))

-- a placed branch has a kind
pub placed_kind : (p : Plan) (k : ℕ) → placed p k ≡ is_some (kind_at p k)
unfolding placed kind_at
placed_kind p k = go (ltb k 32) (branch_at p k)
  where
    go : (b : Bool) (f : Option Branch) → (b && is_some f) ≡ is_some (cond b (kind_found f) None)
    go true None = refl
    go true (Some x) = refl
    go false f = refl

pub kind_placed : (p : Plan) (k : ℕ) (x : Kind) → kind_at p k ≡ Some x → k ∈ placed p
kind_placed p k x e = placed_kind p k ∙ ap is_some e

pub kind_class_lem : (p : Plan) (k : ℕ) (x : Kind) → kind_at p k ≡ Some x → class_at p k ≡ kind_class x
unfolding kind_at class_at
kind_class_lem p k x e = go (ltb k 32) (branch_at p k) e
  where
    some_is : (o : Option Kind) (a : Kind) → Some a ≡ o → o ≡ Some x → kind_class a ≡ kind_class x
    some_is o a d i = let z : a ≡ x = cc in ap kind_class z

    go : (b : Bool) (f : Option Branch) → cond b (kind_found f) None ≡ Some x → class_found f ≡ kind_class x
    go true None e = let z : ◌≡◌ {A = ℕ} 0 1 = cc in absurd (omega arith)
    go true (Some a) e = some_is (Some x) a.kind e refl
    go false f e = let z : ◌≡◌ {A = ℕ} 0 1 = cc in absurd (omega arith)

-- the cases of a placed branch
pub the_kind : (p : Plan) (k : ℕ) → k ∈ placed p → (x : Kind) × (kind_at p k ≡ Some x)
the_kind p k m = go (kind_at p k) refl
  where
    go : (f : Option Kind) → kind_at p k ≡ f → (x : Kind) × (kind_at p k ≡ Some x)
    go None e = absurd (both_ways (placed p k) (placed_kind p k ∙ ap is_some e) m)
    go (Some x) e = (x, e)

-- the voltage sources are the placed branches of class 0, the others but current sources those of class 3 at most
pub voltages_are : (p : Plan) (k : ℕ) → up_to (class_at p) 0 (placed p) k ≡ is_voltage (kind_at p k)
unfolding placed class_at kind_at
voltages_are p k = go (ltb k 32) (branch_at p k)
  where
    kinds : (x : Kind) → leb (kind_class x) 0 ≡ is_voltage (Some x)
    kinds Resistor = refl
    kinds Inductor = refl
    kinds Capacitor = refl
    kinds VoltageSource = refl
    kinds CurrentSource = refl

    go : (b : Bool) (f : Option Branch) → ((b && is_some f) && leb (class_found f) 0) ≡ is_voltage (cond b (kind_found f) None)
    go true None = refl
    go true (Some x) = kinds x.kind
    go false f = refl

pub resting_are : (p : Plan) (k : ℕ) → up_to (class_at p) 3 (placed p) k ≡ (placed p k && not (is_current (kind_at p k)))
unfolding placed class_at kind_at
resting_are p k = go (ltb k 32) (branch_at p k)
  where
    kinds : (x : Kind) → leb (kind_class x) 3 ≡ not (is_current (Some x))
    kinds Resistor = refl
    kinds Inductor = refl
    kinds Capacitor = refl
    kinds VoltageSource = refl
    kinds CurrentSource = refl

    go : (b : Bool) (f : Option Branch) → ((b && is_some f) && leb (class_found f) 3) ≡ ((b && is_some f) && not (is_current (cond b (kind_found f) None)))
    go true None = refl
    go true (Some x) = kinds x.kind
    go false f = refl

-- node 0 is its own label
parts_some : (g : Graph) (S : Set) → 1 ≤ components g S 32 16
parts_some g S =
    let zeroth : label g S 32 0 ≡ 0 = let h = label-le g S 32 0 in omega arith in
    let first : 0 ∈ own g S 32 = eq-eqb (label g S 32 0) 0 zeroth in
    subst (λ n. 1 ≤ n) (sym (count-without (own g S 32) 0 16 (omega arith) first)) (omega arith)

-- at most 15 branches are kept
pub kept_few : (p : Plan) (S : Set) → Tree (graph_of p) (placed p) S → count S 32 ≤ 15
kept_few p S t =
    let all = ((theory ℕ).counting (graph_of p) S 32 16).forest t.free (λ k m. ends_placed p k (t.placed k m)) in
    let one = parts_some (graph_of p) S in
    omega arith
