-- The place of a number among the members of a set: how many members are below it. Assumes nothing.
use Rattle.std.proofs.Common.{◌≡◌, ℕ, zero, suc, ◌<◌, ◌≤◌, Bool, true, false, cond, sym, refl, ap, ◌∙◌, subst, inl, inr, arith}
use Rattle.std.proofs.lemmas.Bool.{cases_eq}
use Rattle.arithmetic.specs.Ops.{Ops, Exact}
use Rattle.graphs.specs.Graph.{Set, ◌∈◌, count}
use Rattle.graphs.proofs.Sets.{count_in}
use Rattle.linear.specs.Systems.{sum}
use Rattle.linear.proofs.Ring.{ring}
use Rattle.stories.proofs.Terms.{weight}

pub count-step : (S : Set) (m : ℕ) → count S m ≤ count S (suc m)
unfolding count
count-step S m = go (S m)
  where
    go : (b : Bool) → count S m ≤ cond b (suc (count S m)) (count S m)
    go true = omega arith
    go false = omega arith

pub count_mono : (S : Set) (a b : ℕ) → a ≤ b → count S a ≤ count S b
count_mono S a zero h = subst (λ n. count S n ≤ count S 0) (let e : 0 ≡ a = omega arith in e) (omega arith)
count_mono S a (suc b) h = elim (cases_eq a (suc b)) [
  | inl e ↦ subst (λ n. count S a ≤ count S n) e (omega arith)
  | inr d ↦ let l = count_mono S a b (omega arith) in let r = count-step S b in omega arith
]

-- a member's place is before the places of the members above it
pub count-lt : (S : Set) (a b : ℕ) → a ∈ S → a < b → count S a < count S b
count-lt S a b m h = let e = count_in S a m in let l = count_mono S (suc a) b h in omega arith

-- every place has its member
pub count_at : (S : Set) (m c : ℕ) → c < count S m → (t : ℕ) × ((t < m) × ((t ∈ S) × (count S t ≡ c)))
unfolding count
count_at S zero c h = absurd (omega arith)
count_at S (suc m) c h = go (S m) refl h (count_at S m c)
  where
    up : (t : ℕ) × ((t < m) × ((t ∈ S) × (count S t ≡ c))) → (t : ℕ) × ((t < suc m) × ((t ∈ S) × (count S t ≡ c)))
    up f = (f.0, (omega (arith, f.1.0), f.1.1))

    go : (b : Bool) → S m ≡ b → c < cond b (suc (count S m)) (count S m) → (c < count S m → (t : ℕ) × ((t < m) × ((t ∈ S) × (count S t ≡ c)))) → (t : ℕ) × ((t < suc m) × ((t ∈ S) × (count S t ≡ c)))
    go false i h f = up (f h)
    go true i h f = elim (cases_eq c (count S m)) [
      | inl e ↦ (m, (omega arith, (i, sym e)))
      | inr d ↦ up (f (omega arith))
    ]

-- a sum over places is a sum over members
module _ {M : Type 0} {o : Ops M} (laws : Exact o) where
  more : (a x : M) → o.add a x ≡ o.add a (o.mul o.one x)
  more a x = simp (ring, laws)

  same : (a x : M) → a ≡ o.add a (o.mul o.nought x)
  same a x = simp (ring, laws)

  pub sum-count : (S : Set) (m : ℕ) (f : ℕ → M) → sum o (count S m) f ≡ sum o m (λ t. o.mul (weight o (S t)) (f (count S t)))
  unfolding count sum weight
  sum-count S zero f = refl
  sum-count S (suc m) f = go (S m) (sum-count S m f)
    where
      go : (b : Bool) → sum o (count S m) f ≡ sum o m (λ t. o.mul (weight o (S t)) (f (count S t)))
          → sum o (cond b (suc (count S m)) (count S m)) f ≡ o.add (sum o m (λ t. o.mul (weight o (S t)) (f (count S t)))) (o.mul (weight o b) (f (count S m)))
      go true e = ap (λ a. o.add a (f (count S m))) e ∙ more _ (f (count S m))
      go false e = e ∙ same _ (f (count S m))
