-- Nodes have equal labels just if a walk joins them, and the label is the least such node. Assumes nothing.
use Rattle.std.proofs.Common.{◌≡◌, ℕ, zero, suc, ◌<◌, ◌≤◌, min, max, Bool, true, false, cond, eqb, ◌⊎◌, sym, refl, ap, ◌∙◌, subst, inl, inr, arith}
use Rattle.std.proofs.lemmas.Bool.{eqb-true, eqb-false, eq-eqb, ne_eqb, cases_eq}
use Rattle.graphs.specs.Graph.{Graph, Set, ◌∈◌, Walk, here, along, with, Below}
use Rattle.graphs.specs.Labels.{merge, label, joins}
use Rattle.graphs.proofs.Sets.{in_with, with_more, with_cases}
use Rattle.graphs.proofs.Walks.{then, back, into, steady}

-- merging, as cases
pub merge_at : (p q l : ℕ) → ((l ≡ max p q) × (merge p q l ≡ min p q)) ⊎ ((l ≡ max p q → ⊥) × (merge p q l ≡ l))
unfolding merge
merge_at p q l = go (eqb l (max p q)) refl
  where
    go : (b : Bool) → eqb l (max p q) ≡ b → ((l ≡ max p q) × (cond b (min p q) l ≡ min p q)) ⊎ ((l ≡ max p q → ⊥) × (cond b (min p q) l ≡ l))
    go true e = inl (eqb-true l (max p q) e, refl)
    go false e = inr (eqb-false l (max p q) e, refl)

-- merging lowers, and takes both labels to the smaller
pub merge-le : (p q l : ℕ) → merge p q l ≤ l
merge-le p q l = elim (merge_at p q l) [ inl h ↦ omega (arith, h.0, h.1) | inr h ↦ omega (arith, h.1) ]

pub merge-left : (p q : ℕ) → merge p q p ≡ min p q
merge-left p q = elim (merge_at p q p) [ inl h ↦ h.1 | inr h ↦ omega (arith, h.0, h.1) ]

pub merge-right : (p q : ℕ) → merge p q q ≡ min p q
merge-right p q = elim (merge_at p q q) [ inl h ↦ h.1 | inr h ↦ omega (arith, h.0, h.1) ]

-- one more branch
pub label_in : (g : Graph) (S : Set) (m x : ℕ) → m ∈ S → label g S (suc m) x ≡ merge (label g S m (g.tail m)) (label g S m (g.head m)) (label g S m x)
unfolding label
label_in g S m x h = ap (λ b. cond b (merge (label g S m (g.tail m)) (label g S m (g.head m)) (label g S m x)) (label g S m x)) h

pub label_out : (g : Graph) (S : Set) (m x : ℕ) → S m ≡ false → label g S (suc m) x ≡ label g S m x
unfolding label
label_out g S m x h = ap (λ b. cond b (merge (label g S m (g.tail m)) (label g S m (g.head m)) (label g S m x)) (label g S m x)) h

pub label-le : (g : Graph) (S : Set) (m x : ℕ) → label g S m x ≤ x
unfolding label
label-le g S zero x = omega arith
label-le g S (suc m) x = go (S m) refl (label-le g S m x) (merge-le (label g S m (g.tail m)) (label g S m (g.head m)) (label g S m x))
  where
    go : (b : Bool) → S m ≡ b → label g S m x ≤ x → merge (label g S m (g.tail m)) (label g S m (g.head m)) (label g S m x) ≤ label g S m x → label g S (suc m) x ≤ x
    go true e h k = omega (arith, label_in g S m x e)
    go false e h k = omega (arith, label_out g S m x e)

-- equal labels stay equal, and each member's ends get one label
label_keeps : (g : Graph) (S : Set) (m a c : ℕ) → label g S m a ≡ label g S m c → label g S (suc m) a ≡ label g S (suc m) c
unfolding label
label_keeps g S m a c e = ap (λ l. cond (S m) (merge (label g S m (g.tail m)) (label g S m (g.head m)) l) l) e

pub label_ends : (g : Graph) (S : Set) (m k : ℕ) → k < m → k ∈ S → label g S m (g.tail k) ≡ label g S m (g.head k)
label_ends g S zero k b h = omega arith
label_ends g S (suc m) k b h = go (cases_eq k m) (λ c. label_keeps g S m (g.tail k) (g.head k) (label_ends g S m k c h))
  where
    at : m ∈ S → label g S (suc m) (g.tail m) ≡ label g S (suc m) (g.head m)
    at i = label_in g S m (g.tail m) i ∙ merge-left _ _ ∙ sym (merge-right _ _) ∙ sym (label_in g S m (g.head m) i)

    go : (k ≡ m) ⊎ (k ≡ m → ⊥) → (k < m → label g S (suc m) (g.tail k) ≡ label g S (suc m) (g.head k)) → label g S (suc m) (g.tail k) ≡ label g S (suc m) (g.head k)
    go (inl e) f = subst (λ j. label g S (suc m) (g.tail j) ≡ label g S (suc m) (g.head j)) (sym e) (at (subst (λ j. j ∈ S) e h))
    go (inr e) f = f (omega arith)

-- along a walk the label stays
pub walk_label : {g : Graph} {S : Set} {a c : ℕ} (m : ℕ) → Below m S → Walk g S a c → label g S m a ≡ label g S m c
walk_label {g} {S} m b w = steady (label g S m) (λ k h. label_ends g S m k (b k h) h) w

-- a walk leads from each node to its label
to : {g : Graph} {S : Set} {a b c : ℕ} → b ≡ c → Walk g S a b → Walk g S a c
to e w = then w (here e)

merge_walk : {g : Graph} {S : Set} (k : ℕ) {x l p q : ℕ} → k ∈ S → Walk g S x l → Walk g S (g.tail k) p → Walk g S (g.head k) q → Walk g S x (merge p q l)
merge_walk {g} {S} k {x} {l} {p} {q} i w u v = go (merge_at p q l)
  where
    over : Walk g S p q
    over = then (back u) (along k i refl v)

    go : ((l ≡ max p q) × (merge p q l ≡ min p q)) ⊎ ((l ≡ max p q → ⊥) × (merge p q l ≡ l)) → Walk g S x (merge p q l)
    go (inr h) = to (sym h.1) w
    go (inl h) = elim (cases_eq p (max p q)) [ inl e ↦ then w (then (here (h.0 ∙ sym e)) (to (omega (arith, h.0, h.1, e)) over)) | inr e ↦ then w (then (here (omega (arith, h.0, h.1, e))) (to (omega (arith, h.0, h.1, e)) (back over))) ]

pub to_label : (g : Graph) (S : Set) (m x : ℕ) → Walk g S x (label g S m x)
unfolding label
to_label g S zero x = here refl
to_label g S (suc m) x = go (S m) refl (to_label g S m x) (to_label g S m (g.tail m)) (to_label g S m (g.head m))
  where
    go : (b : Bool) → S m ≡ b → Walk g S x (label g S m x) → Walk g S (g.tail m) (label g S m (g.tail m)) → Walk g S (g.head m) (label g S m (g.head m)) → Walk g S x (label g S (suc m) x)
    go true i w u v = to (sym (label_in g S m x i)) (merge_walk m i w u v)
    go false i w u v = to (sym (label_out g S m x i)) w

pub label_walk : (g : Graph) (S : Set) (m : ℕ) {a c : ℕ} → label g S m a ≡ label g S m c → Walk g S a c
label_walk g S m {a} {c} e = then (to_label g S m a) (then (here e) (back (to_label g S m c)))

-- the label is the least of the nodes that a walk joins with x, and its own label
pub label_least : {g : Graph} {S : Set} {a c : ℕ} (m : ℕ) → Below m S → Walk g S a c → label g S m a ≤ c
label_least {g} {S} {a} {c} m b w = omega (arith, walk_label m b w, label-le g S m c)

pub label-own : (g : Graph) (S : Set) (m x : ℕ) → Below m S → label g S m (label g S m x) ≡ label g S m x
label-own g S m x b = sym (walk_label m b (to_label g S m x))

-- the test and the walk
pub joins_walk : (g : Graph) (S : Set) (m : ℕ) {a c : ℕ} → joins g S m a c ≡ true → Walk g S a c
joins_walk g S m {a} {c} h = label_walk g S m (eqb-true (label g S m a) (label g S m c) h)

pub walk_joins : {g : Graph} {S : Set} {a c : ℕ} (m : ℕ) → Below m S → Walk g S a c → joins g S m a c ≡ true
walk_joins {g} {S} {a} {c} m b w = eq-eqb (label g S m a) (label g S m c) (walk_label m b w)

pub no_walk : {g : Graph} {S : Set} {a c : ℕ} (m : ℕ) → Below m S → joins g S m a c ≡ false → Walk g S a c → ⊥
no_walk {g} {S} {a} {c} m b h w = eqb-false (label g S m a) (label g S m c) h (walk_label m b w)

pub not-joins : (g : Graph) (S : Set) (m a c : ℕ) → (Walk g S a c → ⊥) → joins g S m a c ≡ false
not-joins g S m a c h = ne_eqb (label g S m a) (label g S m c) (λ e. h (label_walk g S m e))

-- only the members below m count
pub label_cong : (g : Graph) (S R : Set) (m x : ℕ) → ((k : ℕ) → k < m → S k ≡ R k) → label g S m x ≡ label g R m x
unfolding label
label_cong g S R zero x f = refl
label_cong g S R (suc m) x f =
    let f' : (k : ℕ) → k < m → S k ≡ R k = λ k h. f k (omega arith) in
    λ i. cond (f m (omega arith) i) (merge (label_cong g S R m (g.tail m) f' i) (label_cong g S R m (g.head m) f' i) (label_cong g S R m x f' i)) (label_cong g S R m x f' i)

-- one branch more, any: its ends' labels are merged
pub label-with : (g : Graph) (S : Set) (m k x : ℕ) → Below m (with S k) → label g (with S k) m x ≡ merge (label g S m (g.tail k)) (label g S m (g.head k)) (label g S m x)
label-with g S m k x b =
    omega (arith, label_least m b reach, steady M stays (to_label g (with S k) m x), merge-le p q (label g S m (label g (with S k) m x)), label-le g S m (label g (with S k) m x))
  where
    p : ℕ
    p = label g S m (g.tail k)

    q : ℕ
    q = label g S m (g.head k)

    M : ℕ → ℕ
    M y = merge p q (label g S m y)

    less : Below m S
    less j h = b j (with_more S k j h)

    up : (y : ℕ) → Walk g (with S k) y (label g S m y)
    up y = into (with_more S k) (to_label g S m y)

    reach : Walk g (with S k) x (M x)
    reach = merge_walk k (in_with S k) (up x) (up (g.tail k)) (up (g.head k))

    at : M (g.tail k) ≡ M (g.head k)
    at = merge-left p q ∙ sym (merge-right p q)

    stays : (j : ℕ) → j ∈ with S k → M (g.tail j) ≡ M (g.head j)
    stays j h = elim (with_cases S k j h) [ inl i ↦ ap (merge p q) (label_ends g S m j (less j i) i) | inr e ↦ subst (λ i. M (g.tail i) ≡ M (g.head i)) (sym e) at ]
