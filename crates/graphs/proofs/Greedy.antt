-- What greedy keeping keeps is loop-free and joins the ends of every branch of the list, front by front. Assumes nothing.
use Rattle.std.proofs.Common.{◌≡◌, ℕ, ◌<◌, ◌≤◌, Bool, true, false, cond, ◌||◌, eqb, ◌⊎◌, ◌↔◌, List, [], ◌∷◌, ◌++◌, sym, refl, ap, ◌∙◌, subst, inl, inr, arith}
use mathlib.Core.Bool.{false≢true}
use Rattle.std.proofs.lemmas.Bool.{eqb-true, eq-eqb, or_cases, or_left, or_right, both_ways, and_parts, and_from, cases_Bool}
use Rattle.graphs.specs.Graph.{Graph, Set, ◌∈◌, ◌⊆◌, empty, with, both, count, listed, Below, Ends, Walk, Spans, LoopFree, Independent, Tree}
use Rattle.graphs.specs.Labels.{joins}
use Rattle.graphs.specs.Greedy.{keep, kept, greedy}
use Rattle.graphs.proofs.Sets.{same, in_with, with_more, with_cases, in_without, count-le}
use Rattle.graphs.proofs.Walks.{one_along, through, into}
use Rattle.graphs.proofs.Labels.{joins_walk, no_walk}
use Rattle.graphs.proofs.Trails.{independent_free, keep_independent, free_less}
use Rattle.graphs.proofs.Rank.{rank}

-- one turn
pub keep_cases : (g : Graph) (m : ℕ) (S : Set) (k : ℕ) → ((joins g S m (g.tail k) (g.head k) ≡ true) × (keep g m S k ≡ S)) ⊎ ((joins g S m (g.tail k) (g.head k) ≡ false) × (keep g m S k ≡ with S k))
keep_cases g m S k = go (joins g S m (g.tail k) (g.head k)) refl
  where
    J : Bool
    J = joins g S m (g.tail k) (g.head k)

    go : (b : Bool) → J ≡ b → ((J ≡ true) × (cond J S (with S k) ≡ S)) ⊎ ((J ≡ false) × (cond J S (with S k) ≡ with S k))
    go true e = inl (e, ap (λ b. cond b S (with S k)) e)
    go false e = inr (e, ap (λ b. cond b S (with S k)) e)

keep_more : (g : Graph) (m : ℕ) (S : Set) (k : ℕ) → S ⊆ keep g m S k
keep_more g m S k j h = elim (keep_cases g m S k) [ inl e ↦ subst (λ R. j ∈ R) (sym e.1) h | inr e ↦ subst (λ R. j ∈ R) (sym e.1) (with_more S k j h) ]

keep-from : (g : Graph) (m : ℕ) (S : Set) (k j : ℕ) → j ∈ keep g m S k → (j ∈ S) ⊎ (j ≡ k)
keep-from g m S k j h = elim (keep_cases g m S k) [ inl e ↦ inl (subst (λ R. j ∈ R) e.1 h) | inr e ↦ with_cases S k j (subst (λ R. j ∈ R) e.1 h) ]

keep-below : (g : Graph) (m : ℕ) (S : Set) (k : ℕ) → Below m S → k < m → Below m (keep g m S k)
keep-below g m S k b l j h = elim (keep-from g m S k j h) [ inl i ↦ b j i | inr e ↦ subst (λ i. i < m) (sym e) l ]

keep-joins : (g : Graph) (m : ℕ) (S : Set) (k : ℕ) → Spans g (keep g m S k) k
keep-joins g m S k = elim (keep_cases g m S k) [ inl e ↦ into (keep_more g m S k) (joins_walk g S m e.0) | inr e ↦ one_along k (subst (λ R. k ∈ R) (sym e.1) (in_with S k)) ]

keep_still : (g : Graph) (m : ℕ) (S : Set) (k : ℕ) → Below m S → Independent g S → Independent g (keep g m S k)
keep_still g m S k b f = elim (keep_cases g m S k) [ inl e ↦ subst (Independent g) (sym e.1) f | inr e ↦ subst (Independent g) (sym e.1) (keep_independent g S k f (no_walk m b e.0)) ]

-- the whole list
pub kept_more : (g : Graph) (m : ℕ) (ks : List ℕ) (S : Set) → S ⊆ kept g m ks S
unfolding kept
kept_more g m [] S j h = h
kept_more g m (k ∷ ks) S j h = kept_more g m ks (keep g m S k) j (keep_more g m S k j h)

pub kept_from : (g : Graph) (m : ℕ) (ks : List ℕ) (S : Set) (j : ℕ) → j ∈ kept g m ks S → (j ∈ S) ⊎ (j ∈ listed ks)
unfolding kept listed
kept_from g m [] S j h = inl h
kept_from g m (k ∷ ks) S j h = go (kept_from g m ks (keep g m S k) j h)
  where
    go : (j ∈ keep g m S k) ⊎ (j ∈ listed ks) → (j ∈ S) ⊎ (j ∈ listed (k ∷ ks))
    go (inl i) = elim (keep-from g m S k j i) [ inl u ↦ inl u | inr e ↦ inr (or_left (eqb j k) (listed ks j) (eq-eqb j k e)) ]
    go (inr i) = inr (or_right (eqb j k) (listed ks j) i)

front : (m k : ℕ) (ks : List ℕ) → Below m (listed (k ∷ ks)) → (k < m) × Below m (listed ks)
unfolding listed
front m k ks b = (b k (or_left (eqb k k) (listed ks k) (eq-eqb k k refl)), λ j h. b j (or_right (eqb j k) (listed ks j) h))

pub kept_independent : (g : Graph) (m : ℕ) (ks : List ℕ) (S : Set) → Below m S → Below m (listed ks) → Independent g S → Independent g (kept g m ks S)
unfolding kept
kept_independent g m [] S b l f = f
kept_independent g m (k ∷ ks) S b l f =
    let h = front m k ks l in
    kept_independent g m ks (keep g m S k) (keep-below g m S k b h.0) h.1 (keep_still g m S k b f)

pub kept_spans : (g : Graph) (m : ℕ) (ks : List ℕ) (S : Set) (k : ℕ) → k ∈ listed ks → Spans g (kept g m ks S) k
unfolding kept listed
kept_spans g m [] S k h = absurd (false≢true h)
kept_spans g m (j ∷ ks) S k h = elim (or_cases (eqb k j) (listed ks k) h) [ inl e ↦ into (kept_more g m ks (keep g m S j)) (subst (λ i. Walk g (keep g m S j) (g.tail i) (g.head i)) (sym (eqb-true k j e)) (keep-joins g m S j)) | inr i ↦ kept_spans g m ks (keep g m S j) k i ]

-- in two parts
pub kept_append : (g : Graph) (m : ℕ) (fs rs : List ℕ) (S : Set) → kept g m (fs ++ rs) S ≡ kept g m rs (kept g m fs S)
unfolding kept
kept_append g m [] rs S = refl
kept_append g m (k ∷ fs) rs S = kept_append g m fs rs (keep g m S k)

pub listed-append : (fs rs : List ℕ) (k : ℕ) → listed (fs ++ rs) k ≡ (listed fs k || listed rs k)
unfolding listed
listed-append [] rs k = refl
listed-append (a ∷ fs) rs k = ap (λ b. eqb k a || b) (listed-append fs rs k) ∙ sym (mathlib.Core.Bool.or_assoc (eqb k a) (listed fs k) (listed rs k))

-- from the empty set
pub greedy-listed : (g : Graph) (m : ℕ) (ks : List ℕ) → greedy g m ks ⊆ listed ks
greedy-listed g m ks k h = elim (kept_from g m ks empty k h) [ inl i ↦ absurd (false≢true i) | inr i ↦ i ]

pub greedy_independent : (g : Graph) (m : ℕ) (ks : List ℕ) → Below m (listed ks) → Independent g (greedy g m ks)
greedy_independent g m ks l = kept_independent g m ks empty (λ k h. absurd (false≢true h)) l (λ k h w. false≢true h)

pub greedy_front : (g : Graph) (m : ℕ) (fs rs : List ℕ) → greedy g m fs ⊆ greedy g m (fs ++ rs)
greedy_front g m fs rs k h = subst (λ R. k ∈ R) (sym (kept_append g m fs rs empty)) (kept_more g m rs (greedy g m fs) k h)

-- of the whole, what is listed in a front is what is kept of the front alone
pub greedy_front_same : (g : Graph) (m : ℕ) (fs rs : List ℕ) → Below m (listed (fs ++ rs)) → (k : ℕ) → both (greedy g m (fs ++ rs)) (listed fs) k ≡ greedy g m fs k
greedy_front_same g m fs rs l k = same (both (greedy g m (fs ++ rs)) (listed fs) k) (greedy g m fs k) there (λ h. and_from (greedy g m (fs ++ rs) k) (listed fs k) (greedy_front g m fs rs k h) (greedy-listed g m fs k h))
  where
    there : k ∈ both (greedy g m (fs ++ rs)) (listed fs) → k ∈ greedy g m fs
    there h = elim (cases_Bool (greedy g m fs k)) [ inl e ↦ e | inr e ↦ absurd (greedy_independent g m (fs ++ rs) l k (and_parts (greedy g m (fs ++ rs) k) (listed fs k) h).0 (into (λ j u. in_without (greedy g m (fs ++ rs)) k j (greedy_front g m fs rs j u) (λ d. both_ways (greedy g m fs k) e (subst (λ n. n ∈ greedy g m fs) d u))) (kept_spans g m fs empty k (and_parts (greedy g m (fs ++ rs) k) (listed fs k) h).1))) ]

-- a branch is kept exactly if those kept before it do not join its ends
pub greedy-turn : (g : Graph) (m : ℕ) (fs rs : List ℕ) (k : ℕ) → Below m (listed (fs ++ (k ∷ rs))) → listed fs k ≡ false → k ∈ greedy g m (fs ++ (k ∷ rs)) ↔ (Spans g (greedy g m fs) k → ⊥)
unfolding kept
greedy-turn g m fs rs k l new = (only, λ h. subst (λ R. k ∈ R) (sym (kept_append g m fs (k ∷ rs) empty)) (kept_more g m rs (keep g m (greedy g m fs) k) k (taken h)))
  where
    only : k ∈ greedy g m (fs ++ (k ∷ rs)) → Spans g (greedy g m fs) k → ⊥
    only h w = greedy_independent g m (fs ++ (k ∷ rs)) l k h (into (λ j u. in_without (greedy g m (fs ++ (k ∷ rs))) k j (greedy_front g m fs (k ∷ rs) j u) (λ d. both_ways (listed fs k) new (greedy-listed g m fs k (subst (λ n. n ∈ greedy g m fs) d u)))) w)

    taken : (Spans g (greedy g m fs) k → ⊥) → k ∈ keep g m (greedy g m fs) k
    taken h = elim (keep_cases g m (greedy g m fs) k) [ inl e ↦ absurd (h (joins_walk g (greedy g m fs) m e.0)) | inr e ↦ subst (λ R. k ∈ R) (sym e.1) (in_with (greedy g m fs) k) ]

-- the greedy tree of a list of the members of P
pub greedy_tree : (g : Graph) (m : ℕ) (P : Set) (ks : List ℕ) → Below m P → ((k : ℕ) → listed ks k ≡ P k) → Tree g P (greedy g m ks)
greedy_tree g m P ks b l = record {
  placed = λ k h. sym (l k) ∙ greedy-listed g m ks k h;
  free = independent_free g (greedy g m ks) (greedy_independent g m ks (λ k h. b k (sym (l k) ∙ h)));
  spans = λ a c w. through (λ k h. kept_spans g m ks empty k (l k ∙ h)) w;
}

-- no loop-free set has more members in a front
pub greedy_most : (g : Graph) (m n : ℕ) (fs rs : List ℕ) (T : Set) → Below m (listed fs) → Ends n g (listed fs) → LoopFree g T → count (both T (listed fs)) m ≤ count (both (greedy g m (fs ++ rs)) (listed fs)) m
greedy_most g m n fs rs T l ends free = omega (arith, rank g (both T (listed fs)) F m n (free_less g (both T (listed fs)) T (λ k h. (and_parts (T k) (listed fs k) h).0) free) (independent_free g F (greedy_independent g m fs l)) (λ k h. l k (greedy-listed g m fs k h)) (λ k h. ends k (and_parts (T k) (listed fs k) h).1) (λ k h. ends k (greedy-listed g m fs k h)) (λ k h. kept_spans g m fs empty k (and_parts (T k) (listed fs k) h).1), count-le F (both (greedy g m (fs ++ rs)) (listed fs)) m (λ k u h. and_from (greedy g m (fs ++ rs) k) (listed fs k) (greedy_front g m fs rs k h) (greedy-listed g m fs k h)))
  where
    F : Set
    F = greedy g m fs
