-- The list of branches class by class is sorted and lists just the members. Assumes nothing.
use Rattle.std.proofs.Common.{◌≡◌, ℕ, zero, suc, ◌<◌, ◌≤◌, Bool, true, false, cond, eqb, ◌⊎◌, List, [], ◌∷◌, ◌++◌, sym, refl, ◌∙◌, subst, inl, inr, arith}
use mathlib.Core.Bool.{false≢true}
use Rattle.std.proofs.lemmas.Bool.{eqb-true, eq-eqb, or_cases, or_left, or_right, and_parts, and_from, cases_eq}
use Rattle.graphs.specs.Graph.{Graph, Set, ◌∈◌, listed, Below}
use Rattle.graphs.specs.Greedy.{keep, kept, Sorted, of_class, members, in_order}
use Rattle.graphs.proofs.Sets.{same}
use Rattle.graphs.proofs.Greedy.{kept_append, listed-append}

append_cases : (fs rs : List ℕ) (k : ℕ) → k ∈ listed (fs ++ rs) → (k ∈ listed fs) ⊎ (k ∈ listed rs)
append_cases fs rs k h = or_cases (listed fs k) (listed rs k) (sym (listed-append fs rs k) ∙ h)

in_front_lem : (fs rs : List ℕ) (k : ℕ) → k ∈ listed fs → k ∈ listed (fs ++ rs)
in_front_lem fs rs k h = listed-append fs rs k ∙ or_left (listed fs k) (listed rs k) h

in_rest : (fs rs : List ℕ) (k : ℕ) → k ∈ listed rs → k ∈ listed (fs ++ rs)
in_rest fs rs k h = listed-append fs rs k ∙ or_right (listed fs k) (listed rs k) h

-- the numbers of a set
pub members_in : (S : Set) (m k : ℕ) → k ∈ S → k < m → k ∈ listed (members S m)
unfolding members listed
members_in S zero k h l = absurd (omega arith)
members_in S (suc m) k h l = go (cases_eq k m) (λ u. members_in S m k h u)
  where
    go : (k ≡ m) ⊎ (k ≡ m → ⊥) → (k < m → k ∈ listed (members S m)) → k ∈ listed (members S (suc m))
    go (inr d) f = in_front_lem (members S m) (cond (S m) (m ∷ []) []) k (f (omega arith))
    go (inl e) f = in_rest (members S m) (cond (S m) (m ∷ []) []) k (subst (λ b. k ∈ listed (cond b (m ∷ []) [])) (sym (subst (λ j. j ∈ S) e h)) (or_left (eqb k m) false (eq-eqb k m e)))

pub members-from : (S : Set) (m k : ℕ) → k ∈ listed (members S m) → (k ∈ S) × (k < m)
unfolding members listed
members-from S zero k h = absurd (false≢true h)
members-from S (suc m) k h = go (append_cases (members S m) (cond (S m) (m ∷ []) []) k h) (members-from S m k)
  where
    end : (b : Bool) → S m ≡ b → k ∈ listed (cond b (m ∷ []) []) → (k ∈ S) × (k < suc m)
    end true e i = elim (or_cases (eqb k m) false i) [ inl d ↦ (subst (λ j. j ∈ S) (sym (eqb-true k m d)) e, omega (arith, eqb-true k m d)) | inr d ↦ absurd (false≢true d) ]
    end false e i = absurd (false≢true i)

    go : (k ∈ listed (members S m)) ⊎ (k ∈ listed (cond (S m) (m ∷ []) [])) → (k ∈ listed (members S m) → (k ∈ S) × (k < m)) → (k ∈ S) × (k < suc m)
    go (inl i) f = ((f i).0, omega (arith, (f i).1))
    go (inr i) f = end (S m) refl i

-- class by class
pub order_in : (class : ℕ → ℕ) (P : Set) (m c k : ℕ) → k ∈ P → k < m → class k < c → k ∈ listed (in_order class P m c)
unfolding in_order
order_in class P m zero k h l u = absurd (omega arith)
order_in class P m (suc c) k h l u = elim (cases_eq (class k) c) [ inl e ↦ in_rest (in_order class P m c) (members (of_class class c P) m) k (members_in (of_class class c P) m k (and_from (P k) (eqb (class k) c) h (eq-eqb (class k) c e)) l) | inr d ↦ in_front_lem (in_order class P m c) (members (of_class class c P) m) k (order_in class P m c k h l (omega (arith, d))) ]

of_class_lem : (class : ℕ → ℕ) (P : Set) (m c k : ℕ) → k ∈ listed (members (of_class class c P) m) → (k ∈ P) × (class k ≡ c)
of_class_lem class P m c k h =
    let p = and_parts (P k) (eqb (class k) c) (members-from (of_class class c P) m k h).0 in
    (p.0, eqb-true (class k) c p.1)

pub order_from : (class : ℕ → ℕ) (P : Set) (m c k : ℕ) → k ∈ listed (in_order class P m c) → (k ∈ P) × (class k < c)
unfolding in_order listed
order_from class P m zero k h = absurd (false≢true h)
order_from class P m (suc c) k h = go (append_cases (in_order class P m c) (members (of_class class c P) m) k h) (order_from class P m c k)
  where
    go : (k ∈ listed (in_order class P m c)) ⊎ (k ∈ listed (members (of_class class c P) m)) → (k ∈ listed (in_order class P m c) → (k ∈ P) × (class k < c)) → (k ∈ P) × (class k < suc c)
    go (inl i) f = ((f i).0, omega (arith, (f i).1))
    go (inr i) f = ((of_class_lem class P m c k i).0, omega (arith, (of_class_lem class P m c k i).1))

pub order_lists : (class : ℕ → ℕ) (P : Set) (m c : ℕ) → Below m P → ((k : ℕ) → k ∈ P → class k < c) → (k : ℕ) → listed (in_order class P m c) k ≡ P k
order_lists class P m c b f k = same (listed (in_order class P m c) k) (P k) (λ h. (order_from class P m c k h).0) (λ h. order_in class P m c k h (b k h) (f k h))

-- sorted
sorted_level : (class : ℕ → ℕ) (c : ℕ) (ks : List ℕ) → ((j : ℕ) → j ∈ listed ks → class j ≡ c) → Sorted class ks
unfolding Sorted listed
sorted_level class c [] f = tt
sorted_level class c (k ∷ ks) f =
    let f' : (j : ℕ) → j ∈ listed ks → class j ≡ c = λ j h. f j (or_right (eqb j k) (listed ks j) h) in
    (λ j h. omega (arith, f' j h, f k (or_left (eqb k k) (listed ks k) (eq-eqb k k refl))), sorted_level class c ks f')

sorted_append : (class : ℕ → ℕ) (fs rs : List ℕ) → Sorted class fs → Sorted class rs → ((i j : ℕ) → i ∈ listed fs → j ∈ listed rs → class i ≤ class j) → Sorted class (fs ++ rs)
unfolding Sorted listed
sorted_append class [] rs s r f = r
sorted_append class (k ∷ fs) rs s r f =
    (λ j h. elim (append_cases fs rs j h) [ inl i ↦ s.0 j i | inr i ↦ f k j (or_left (eqb k k) (listed fs k) (eq-eqb k k refl)) i ], sorted_append class fs rs s.1 r (λ i j u v. f i j (or_right (eqb i k) (listed fs i) u) v))

-- by the numbers themselves
pub members_sorted : (S : Set) (m : ℕ) → Sorted (λ k. k) (members S m)
unfolding members Sorted listed
members_sorted S zero = tt
members_sorted S (suc m) = sorted_append (λ k. k) (members S m) (cond (S m) (m ∷ []) []) (members_sorted S m) (last (S m)) (λ i j u v. omega (arith, (members-from S m i u).1, same_as_last (S m) j v))
  where
    same_as_last : (b : Bool) (j : ℕ) → j ∈ listed (cond b (m ∷ []) []) → j ≡ m
    same_as_last true j h = elim (or_cases (eqb j m) false h) [ inl d ↦ eqb-true j m d | inr d ↦ absurd (false≢true d) ]
    same_as_last false j h = absurd (false≢true h)

    last : (b : Bool) → Sorted (λ k. k) (cond b (m ∷ []) [])
    last true = sorted_level (λ k. k) m (m ∷ []) (λ j h. same_as_last true j h)
    last false = tt

pub order_sorted : (class : ℕ → ℕ) (P : Set) (m c : ℕ) → Sorted class (in_order class P m c)
unfolding in_order Sorted
order_sorted class P m zero = tt
order_sorted class P m (suc c) = sorted_append class (in_order class P m c) (members (of_class class c P) m) (order_sorted class P m c) (sorted_level class c (members (of_class class c P) m) (λ j h. (of_class_lem class P m c j h).1)) (λ i j u v. omega (arith, (order_from class P m c i u).1, (of_class_lem class P m c j v).1))

-- greedy keeping, number by number and class by class
pub kept-members : (g : Graph) (m : ℕ) (A S : Set) (j : ℕ) → kept g m (members A (suc j)) S ≡ cond (A j) (keep g m (kept g m (members A j) S) j) (kept g m (members A j) S)
unfolding kept members
kept-members g m A S j = kept_append g m (members A j) (cond (A j) (j ∷ []) []) S ∙ go (A j)
  where
    go : (b : Bool) → kept g m (cond b (j ∷ []) []) (kept g m (members A j) S) ≡ cond b (keep g m (kept g m (members A j) S) j) (kept g m (members A j) S)
    go true = refl
    go false = refl

pub kept-order : (g : Graph) (m : ℕ) (class : ℕ → ℕ) (P S : Set) (b c : ℕ) → kept g m (in_order class P b (suc c)) S ≡ kept g m (members (of_class class c P) b) (kept g m (in_order class P b c) S)
unfolding in_order
kept-order g m class P S b c = kept_append g m (in_order class P b c) (members (of_class class c P) b) S
