-- Labels that grow with the branches kept.
use Rattle.std.proofs.Common.{◌≡◌, ℕ, suc, zero, ◌<◌, Bool, true, false, not, ◌&&◌, ◌||◌, eqb, List, map, get_or, sym, refl, ap, ◌∙◌, subst, inl, inr, arith}
use mathlib.Core.Path.{fun_ext}
use Rattle.std.specs.List.{range_with_len}
use Rattle.std.proofs.lemmas.Bool.{cond-true, cond-false, cases_eq, eq-eqb, ne_eqb, and_parts, both_ways}
use Rattle.std.proofs.lemmas.List.{length-map, get_or-map}
use Rattle.graphs.specs.Graph.{Graph, Set, ◌∈◌, Below, empty, with, without}
use Rattle.graphs.specs.Greedy.{keep}
use Rattle.graphs.specs.Labels.{merge, joins}
use Rattle.graphs.proofs.Labels.{label-with}
use Rattle.graphs.proofs.Sets.{with_cases}
use Rattle.networks.specs.Networks.{Labelled, alike}
use Rattle.networks.specs.Words.{except}
use Rattle.networks.proofs.Networks.{labelled_none, labelled_out, labelled_alike}

-- the labels of no branch at all
pub labelled_apart : (g : Graph) (m : ℕ) → Labelled g empty m (range_with_len 0 16)
labelled_apart g zero = labelled_none g empty
labelled_apart g (suc m) = subst (λ n. Labelled g empty n (range_with_len 0 16)) (omega arith) (labelled_out g empty m (range_with_len 0 16) (labelled_apart g m) refl)

-- one branch more: the labels of its ends are merged
pub labelled_with :
    (g : Graph) (S : Set) (k : ℕ) (ls : List ℕ) → Below 32 S → k < 32 → g.tail k < 16 → g.head k < 16 → Labelled g S 32 ls
    → Labelled g (with S k) 32 (map (merge (get_or ls (g.tail k) 0) (get_or ls (g.head k) 0)) ls)
labelled_with g S k ls fits lt t h before = record {
  all = length-map ls (merge (get_or ls (g.tail k) 0) (get_or ls (g.head k) 0)) ∙ before.all;
  each = λ x l.
      get_or-map (merge (get_or ls (g.tail k) 0) (get_or ls (g.head k) 0)) ls x 0 0 (subst (λ n. x < n) (sym before.all) l)
      ∙ (λ i. merge (before.each (g.tail k) t i) (before.each (g.head k) h i) (before.each x l i))
      ∙ sym (label-with g S 32 k x below);
}
  where
    below : Below 32 (with S k)
    below j m = elim (with_cases S k j m) [ inl i ↦ fits j i | inr e ↦ subst (λ n. n < 32) (sym e) lt ]

-- members of W are taken one after another, and L are those left: none yet, one more, and all
rest_all : (W : Set) (j : ℕ) → false ≡ except W W j
rest_all W j = go (W j)
  where
    go : (b : Bool) → false ≡ (b && not b)
    go true = refl
    go false = refl

rest_one : (W L : Set) (k j : ℕ) → k ∈ W → with (except W L) k j ≡ except W (without L k) j
rest_one W L k j m = elim (cases_eq j k) [
  | inl e ↦ both_same (W j) (L j) (eqb j k) (ap W e ∙ m) (eq-eqb j k e)
  | inr ne ↦ both_other (W j) (L j) (eqb j k) (ne_eqb j k ne)
]
  where
    both_same : (w l e : Bool) → w ≡ true → e ≡ true → ((w && not l) || e) ≡ (w && not (l && not e))
    both_same true true true a b = refl
    both_same true false true a b = refl
    both_same true l false a b = absurd (both_ways false refl b)
    both_same false l e a b = absurd (both_ways false refl a)

    both_other : (w l e : Bool) → e ≡ false → ((w && not l) || e) ≡ (w && not (l && not e))
    both_other true true false a = refl
    both_other true false false a = refl
    both_other false l false a = refl
    both_other w l true a = absurd (both_ways true a refl)

rest_none : (W L : Set) → Below 32 W → ((j : ℕ) → j < 32 → L j ≡ false) → (j : ℕ) → except W L j ≡ W j
rest_none W L below none j = go (W j) refl
  where
    go : (b : Bool) → W j ≡ b → (b && not (L j)) ≡ b
    go true e = ap not (none j (below j e))
    go false e = refl

module _ (g : Graph) (W : Set) (ls : List ℕ) where
  pub taking_all : Labelled g empty 32 ls → Labelled g (except W W) 32 ls
  taking_all all = subst (λ (S : Set). Labelled g S 32 ls) (fun_ext (rest_all W)) all

  pub taking_one :
      (L : Set) (k : ℕ) → Below 32 W → k ∈ W → k < 32 → g.tail k < 16 → g.head k < 16 → Labelled g (except W L) 32 ls →
      Labelled g (except W (without L k)) 32 (map (merge (get_or ls (g.tail k) 0) (get_or ls (g.head k) 0)) ls)
  taking_one L k fits m lt t h before =
      subst (λ (S : Set). Labelled g S 32 (map (merge (get_or ls (g.tail k) 0) (get_or ls (g.head k) 0)) ls)) (fun_ext (λ j. rest_one W L k j m))
      (labelled_with g (except W L) k ls (λ j i. fits j (and_parts (W j) (not (L j)) i).0) lt t h before)

  pub taking_none : (L : Set) → Below 32 W → ((j : ℕ) → j < 32 → L j ≡ false) → Labelled g (except W L) 32 ls → Labelled g W 32 ls
  taking_none L fits none all = subst (λ (S : Set). Labelled g S 32 ls) (fun_ext (rest_none W L fits none)) all

-- whether the branch is kept, by the labels of its ends
module _ (g : Graph) (S : Set) (k a b : ℕ) (ls : List ℕ) (all : Labelled g S 32 ls) (at : a ≡ g.tail k) (bt : b ≡ g.head k) (p : a < 16) (q : b < 16) where
  told : alike ls a b ≡ joins g S 32 (g.tail k) (g.head k)
  told = labelled_alike g S 32 ls all a b p q ∙ (λ i. joins g S 32 (at i) (bt i))

  pub keep_out : alike ls a b ≡ true → S ≡ keep g 32 S k
  keep_out e = sym (cond-true (joins g S 32 (g.tail k) (g.head k)) S (with S k) (sym told ∙ e))

  pub keep_in : alike ls a b ≡ false → with S k ≡ keep g 32 S k
  keep_in e = sym (cond-false (joins g S 32 (g.tail k) (g.head k)) S (with S k) (sym told ∙ e))
