-- How many parts a set of branches leaves, and that no loop-free set has more branches than one that joins its ends. Assumes nothing.
use Rattle.std.proofs.Common.{◌≡◌, ℕ, zero, suc, ◌+◌, ◌<◌, ◌≤◌, min, max, Bool, true, false, not, ◌&&◌, eqb, ◌⊎◌, sym, refl, ap, ◌∙◌, subst, inl, inr, arith}
use mathlib.Core.Bool.{and-true}
use Rattle.std.proofs.lemmas.Bool.{eqb-true, eq-eqb, ne_eqb, cases_eq}
use Rattle.graphs.specs.Graph.{Graph, Set, ◌∈◌, ◌⊆◌, with, without, count, Below, Ends, Spans, LoopFree, Independent}
use Rattle.graphs.specs.Labels.{merge, label, own, components}
use Rattle.graphs.proofs.Sets.{out, same, with_more, without_not, in_without, under, under_less, under-below, under_same, count_in, count_out, count_cong, count-le, count-all, count-without}
use Rattle.graphs.proofs.Walks.{through, into}
use Rattle.graphs.proofs.Labels.{merge_at, merge-le, label_in, label_out, label-le, walk_label, to_label, label_walk, label-own, label_least, label_cong, label-with}
use Rattle.graphs.proofs.Trails.{free_independent}

-- merging two labels: one node less is its own label if they differ, and nothing changes if they do not
module _ (L : ℕ → ℕ) (p q n : ℕ) (le : (x : ℕ) → L x ≤ x) (lp : L p ≡ p) (lq : L q ≡ q) (bp : p < n) (bq : q < n) where
  roots_apart : (p ≡ q → ⊥) → count (λ x. eqb (L x) x) n ≡ suc (count (λ x. eqb (merge p q (L x)) x) n)
  roots_apart d = count-without (λ x. eqb (L x) x) (max p q) n (omega arith) (eq-eqb _ _ top) ∙ ap suc (count_cong _ _ n (λ x h. one x (cases_eq x (max p q))))
    where
      top : L (max p q) ≡ max p q
      top = elim (cases_eq p (max p q)) [ inl e ↦ subst (λ z. L z ≡ z) e lp | inr e ↦ subst (λ z. L z ≡ z) (omega arith) lq ]

      moved : (x : ℕ) → (x ≡ max p q → ⊥) → L x ≡ x → merge p q (L x) ≡ x
      moved x f e = elim (merge_at p q (L x)) [ inl h ↦ absurd (f (sym e ∙ h.0)) | inr h ↦ h.1 ∙ e ]

      still : (x : ℕ) → merge p q (L x) ≡ x → L x ≡ x
      still x e = omega (arith, merge-le p q (L x), le x, e)

      gone : (x : ℕ) → x ≡ max p q → merge p q (L x) ≡ x → ⊥
      gone x f e = elim (merge_at p q (L x)) [ inl h ↦ omega (arith, h.0, h.1, e, f, d) | inr h ↦ h.0 (sym h.1 ∙ e ∙ f) ]

      one : (x : ℕ) → (x ≡ max p q) ⊎ (x ≡ max p q → ⊥) → without (λ y. eqb (L y) y) (max p q) x ≡ eqb (merge p q (L x)) x
      one x (inl f) = out _ (λ h. without_not (λ y. eqb (L y) y) (max p q) x h f) ∙ sym (ne_eqb _ _ (gone x f))
      one x (inr f) = ap (λ b. eqb (L x) x && not b) (ne_eqb x (max p q) f) ∙ and-true (eqb (L x) x) ∙ same _ _ (λ h. eq-eqb _ _ (moved x f (eqb-true _ _ h))) (λ h. eq-eqb _ _ (still x (eqb-true _ _ h)))

roots_joined : (L : ℕ → ℕ) (p q n : ℕ) → p ≡ q → count (λ x. eqb (merge p q (L x)) x) n ≡ count (λ x. eqb (L x) x) n
roots_joined L p q n e = count_cong _ _ n (λ x h. ap (λ l. eqb l x) (one (L x) (merge_at p q (L x))))
  where
    one : (l : ℕ) → ((l ≡ max p q) × (merge p q l ≡ min p q)) ⊎ ((l ≡ max p q → ⊥) × (merge p q l ≡ l)) → merge p q l ≡ l
    one l (inl h) = omega (arith, h.0, h.1, e)
    one l (inr h) = h.1

-- one branch more
pub components-with : (g : Graph) (S : Set) (m n k : ℕ) → Below m (with S k) → (g.tail k < n) × (g.head k < n) → (Spans g S k → ⊥) → components g S m n ≡ suc (components g (with S k) m n)
components-with g S m n k b ends h =
    roots_apart (label g S m) p q n (label-le g S m) (label-own g S m (g.tail k) b') (label-own g S m (g.head k) b') (omega (arith, label-le g S m (g.tail k), ends.0)) (omega (arith, label-le g S m (g.head k), ends.1)) (λ e. h (label_walk g S m e))
    ∙ ap suc (count_cong _ _ n (λ x l. ap (λ y. eqb y x) (sym (label-with g S m k x b))))
  where
    b' : Below m S
    b' j i = b j (with_more S k j i)

    p : ℕ
    p = label g S m (g.tail k)

    q : ℕ
    q = label g S m (g.head k)

pub components_same : (g : Graph) (S : Set) (m n k : ℕ) → Below m (with S k) → Spans g S k → components g (with S k) m n ≡ components g S m n
components_same g S m n k b w =
    count_cong _ _ n (λ x l. ap (λ y. eqb y x) (label-with g S m k x b))
    ∙ roots_joined (label g S m) (label g S m (g.tail k)) (label g S m (g.head k)) n (walk_label m (λ j i. b j (with_more S k j i)) w)

-- a loop-free set: with each branch there is one part less
pub forest : (g : Graph) (S : Set) (m n : ℕ) → Independent g S → Ends n g S → components g S m n + count S m ≡ n
unfolding label count
forest g S zero n f ends = omega (arith, count-all (own g S zero) n (λ x h. eq-eqb x x refl))
forest g S (suc m) n f ends = go (S m) refl (forest g S m n f ends)
  where
    R : Set
    R = under S m

    L : ℕ → ℕ
    L = label g S m

    below : (x : ℕ) → L x ≡ label g R m x
    below x = label_cong g S R m x (λ k h. under_same S m k h)

    again : (x : ℕ) → L (L x) ≡ L x
    again x = below (L x) ∙ ap (label g R m) (below x) ∙ label-own g R m x (under-below S m) ∙ sym (below x)

    less : R ⊆ without S m
    less k h = in_without S m k (under_less S m k h) (λ e. omega (arith, under-below S m k h))

    apart : m ∈ S → L (g.tail m) ≡ L (g.head m) → ⊥
    apart i e = f m i (into less (label_walk g R m (sym (below (g.tail m)) ∙ e ∙ below (g.head m))))

    go : (b : Bool) → S m ≡ b → components g S m n + count S m ≡ n → components g S (suc m) n + count S (suc m) ≡ n
    go false i h = omega (arith, h, count_out S m i, count_cong (own g S (suc m)) (own g S m) n (λ x l. ap (λ y. eqb y x) (label_out g S m x i)))
    go true i h =
        let low : (x : ℕ) → x < n → L x < n = λ x l. omega (arith, label-le g S m x) in
        omega (arith, h, count_in S m i, count_cong (own g S (suc m)) (λ x. eqb (merge (L (g.tail m)) (L (g.head m)) (L x)) x) n (λ x l. ap (λ y. eqb y x) (label_in g S m x i)), roots_apart L (L (g.tail m)) (L (g.head m)) n (label-le g S m) (again (g.tail m)) (again (g.head m)) (low (g.tail m) (ends m i).0) (low (g.head m) (ends m i).1) (apart i))

-- the rank bound
pub rank : (g : Graph) (S F : Set) (m n : ℕ) → LoopFree g S → LoopFree g F → Below m F → Ends n g S → Ends n g F → ((k : ℕ) → k ∈ S → Spans g F k) → count S m ≤ count F m
rank g S F m n s f b es ef spans = omega (arith, forest g S m n (free_independent g S s) es, forest g F m n (free_independent g F f) ef, count-le (own g F m) (own g S m) n keeps)
  where
    keeps : (x : ℕ) → x < n → x ∈ own g F m → x ∈ own g S m
    keeps x l h = eq-eqb (label g S m x) x (omega (arith, eqb-true (label g F m x) x h, label_least m b (through spans (to_label g S m x)), label-le g S m x))
