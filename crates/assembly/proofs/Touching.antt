-- Loops that change a list at the members of a word, each place once. Assumes nothing.
use Rattle.std.proofs.Common.{◌≡◌, ℕ, ◌<◌, Bool, true, cond, not, ◌&&◌, ◌⊎◌, Some, None, List, length, get_or, set, sym, refl, ap, ◌∙◌, ap₂, inl, inr, arith, get_or-set_other}
use Rattle.std.proofs.lemmas.Bool.{cond-true, cond-false, cases_eq, ne_eqb, eq-eqb, and_parts, and_right}
use Rattle.std.proofs.lemmas.List.{get_or-set_same, length-set}
use mathlib.Core.Bool.{and-true}
use Rattle.arithmetic.specs.Ops.{Ops}
use Rattle.graphs.specs.Graph.{Set, ◌∈◌, without}
use Rattle.networks.specs.Words.{first}
use Rattle.networks.proofs.Firsts.{first_member, first-none}
use Rattle.assembly.specs.Figures.{all, at_members, Filled}

module _ {M : Type 0} (o : Ops M) (f : ℕ → M → M) where
  -- what a change of the members of S makes of a place
  abbrev pub change : Set → List M → ℕ → M
  change S w j = cond (S j) (f j (get_or w j o.nought)) (get_or w j o.nought)

  -- the members R are left of S
  pub record Touching (S R : Set) (old now : List M) : Type 0 where
    pub within : (k : ℕ) → k ∈ R → k ∈ S
    pub long : length now ≡ length old
    pub each : (j : ℕ) → j < 32 → change R now j ≡ change S old j

  pub untouched : (S R : Set) (w : List M) → R ≡ S → Touching S R w w
  untouched S R w e = record { within = λ k m. sym (ap (λ T. T k) e) ∙ m; long = refl; each = λ j l. ap (λ T. change T w j) e }

  pub member_in : (S R : Set) (old now : List M) (k : ℕ) → Touching S R old now → Some k ≡ first R → (k ∈ S) × (k < 32)
  member_in S R old now k g i = let m = first_member R 0 32 k (sym i) in (g.within k m.0, m.1)

  pub touched : (S R Q : Set) (old now next : List M) (k : ℕ) → Touching S R old now → Some k ≡ first R → Q ≡ without R k → k < length now → next ≡ set now k (f k (get_or now k o.nought)) → Touching S Q old next
  touched S R Q old now next k g i e l d = record {
    within = λ j h. g.within j (and_parts (R j) _ (sym (ap (λ T. T j) e) ∙ h)).0;
    long = ap length d ∙ length-set now k (f k (get_or now k o.nought)) ∙ g.long;
    each = λ j b. ap₂ (λ T w. change T w j) e d ∙ go j b (cases_eq j k);
  }
    where
      y : M
      y = f k (get_or now k o.nought)

      here : k < 32 → change (without R k) (set now k y) k ≡ change S old k
      here b =
          cond-false (without R k k) _ _ (and_right (R k) _ (ap not (eq-eqb k k (λ i. k))))
          ∙ get_or-set_same now k y o.nought l
          ∙ sym (cond-true (R k) _ _ (first_member R 0 32 k (sym i)).0)
          ∙ g.each k b

      go : (j : ℕ) → j < 32 → (j ≡ k) ⊎ (j ≡ k → ⊥) → change (without R k) (set now k y) j ≡ change S old j
      go j b (inl s) = ap (change (without R k) (set now k y)) s ∙ here (omega arith) ∙ ap (change S old) (sym s)
      go j b (inr ne) =
          ap₂ (λ (t : Bool) (a : M). cond t (f j a) a) (ap (λ t. R j && not t) (ne_eqb j k ne) ∙ and-true (R j)) (get_or-set_other now k j y o.nought ne)
          ∙ g.each j b

  pub all_touched : (S R : Set) (old now : List M) → Touching S R old now → None ≡ first R → (j : ℕ) → j < 32 → get_or now j o.nought ≡ change S old j
  all_touched S R old now g i j l = sym (cond-false (R j) _ _ (first-none R 0 32 j (sym i) (omega arith) (omega arith))) ∙ g.each j l

-- the values of the members of a set, filled into zeros
pub valued : {M : Type 0} (o : Ops M) (S : Set) (x : ℕ → M) (old now : List M) → length now ≡ 32 → ((j : ℕ) → j < 32 → get_or old j o.nought ≡ o.nought)
    → ((j : ℕ) → j < 32 → get_or now j o.nought ≡ change o (λ k a. x k) S old j) → Filled o all (at_members o S x) 32 now
valued o S x old now long z e = record { long = long; each = λ k l m. e k l ∙ ap (cond (S k) (x k)) (z k l) }

-- and read at the members alone
pub members_filled : {M : Type 0} (o : Ops M) (S : Set) (x : ℕ → M) (w : List M) → Filled o all (at_members o S x) 32 w → Filled o S x 32 w
members_filled o S x w h = record { long = h.long; each = λ k l m. h.each k l (λ i. true) ∙ cond-true (S k) _ _ m }
