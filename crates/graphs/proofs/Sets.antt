-- Members of the sets made from others, and how many there are. Assumes nothing.
use Rattle.std.proofs.Common.{◌≡◌, ℕ, zero, suc, ◌+◌, ◌<◌, ◌≤◌, Bool, true, false, cond, not, ◌&&◌, ◌||◌, eqb, ltb, ◌⊎◌, sym, refl, ap, ◌∙◌, subst, inl, inr, arith}
use mathlib.Core.Bool.{and-true, false≢true}
use Rattle.std.proofs.lemmas.Bool.{eqb-true, eqb-false, eq-eqb, ne_eqb, cases_eq, and_parts, and_from, or_cases, or_left, or_right, not-true, both_ways, ltb-true, lt-ltb}
use Rattle.graphs.specs.Graph.{Set, ◌∈◌, ◌⊆◌, with, without, count, Below}

-- a member or not
pub out : (b : Bool) → (b ≡ true → ⊥) → b ≡ false
out true h = absurd (h refl)
out false h = refl

pub same : (a b : Bool) → (a ≡ true → b ≡ true) → (b ≡ true → a ≡ true) → a ≡ b
same true b f h = sym (f refl)
same false b f h = sym (out b (λ e. false≢true (h e)))

pub in_with : (S : Set) (k : ℕ) → k ∈ with S k
in_with S k = or_right (S k) (eqb k k) (eq-eqb k k refl)

pub with_more : (S : Set) (k : ℕ) → S ⊆ with S k
with_more S k j h = or_left (S j) (eqb j k) h

pub with_cases : (S : Set) (k j : ℕ) → j ∈ with S k → (j ∈ S) ⊎ (j ≡ k)
with_cases S k j h = elim (or_cases (S j) (eqb j k) h) [ inl e ↦ inl e | inr e ↦ inr (eqb-true j k e) ]

pub without_less : (S : Set) (k : ℕ) → without S k ⊆ S
without_less S k j h = (and_parts (S j) (not (eqb j k)) h).0

pub without_not : (S : Set) (k j : ℕ) → j ∈ without S k → j ≡ k → ⊥
without_not S k j h = eqb-false j k (not-true (eqb j k) (and_parts (S j) (not (eqb j k)) h).1)

pub in_without : (S : Set) (k j : ℕ) → j ∈ S → (j ≡ k → ⊥) → j ∈ without S k
in_without S k j h d = and_from (S j) (not (eqb j k)) h (ap not (ne_eqb j k d))

-- those below m
abbrev pub under : Set → ℕ → Set
under S m k = S k && ltb k m

pub under_less : (S : Set) (m : ℕ) → under S m ⊆ S
under_less S m k h = (and_parts (S k) (ltb k m) h).0

pub under-below : (S : Set) (m : ℕ) → Below m (under S m)
under-below S m k h = ltb-true k m (and_parts (S k) (ltb k m) h).1

pub under_same : (S : Set) (m k : ℕ) → k < m → S k ≡ under S m k
under_same S m k h = sym (ap (λ b. S k && b) (lt-ltb k m h) ∙ and-true (S k))

-- one more number
pub count_in : (S : Set) (m : ℕ) → m ∈ S → count S (suc m) ≡ suc (count S m)
unfolding count
count_in S m h = ap (λ b. cond b (suc (count S m)) (count S m)) h

pub count_out : (S : Set) (m : ℕ) → S m ≡ false → count S (suc m) ≡ count S m
unfolding count
count_out S m h = ap (λ b. cond b (suc (count S m)) (count S m)) h

pub count_cong : (S R : Set) (m : ℕ) → ((k : ℕ) → k < m → S k ≡ R k) → count S m ≡ count R m
unfolding count
count_cong S R zero f = refl
count_cong S R (suc m) f =
    let ih = count_cong S R m (λ k h. f k (omega arith)) in
    λ i. cond (f m (omega arith) i) (suc (ih i)) (ih i)

pub count-le : (S R : Set) (m : ℕ) → ((k : ℕ) → k < m → k ∈ S → k ∈ R) → count S m ≤ count R m
unfolding count
count-le S R zero f = omega arith
count-le S R (suc m) f = go (S m) (R m) refl refl (count-le S R m (λ k h. f k (omega arith)))
  where
    go : (s r : Bool) → S m ≡ s → R m ≡ r → count S m ≤ count R m → cond s (suc (count S m)) (count S m) ≤ cond r (suc (count R m)) (count R m)
    go true true d e h = omega arith
    go true false d e h = absurd (both_ways (R m) e (f m (omega arith) d))
    go false true d e h = omega arith
    go false false d e h = h

pub count-all : (S : Set) (m : ℕ) → ((k : ℕ) → k < m → k ∈ S) → count S m ≡ m
unfolding count
count-all S zero f = refl
count-all S (suc m) f = count_in S m (f m (omega arith)) ∙ ap suc (count-all S m (λ k h. f k (omega arith)))

-- without one member there is one less
pub count-without : (S : Set) (k m : ℕ) → k < m → k ∈ S → count S m ≡ suc (count (without S k) m)
unfolding count
count-without S k zero b h = omega arith
count-without S k (suc m) b h = go (cases_eq k m) (λ c. count-without S k m c h)
  where
    apart : (k ≡ m → ⊥) → without S k m ≡ S m
    apart d = ap (λ b. S m && not b) (ne_eqb m k (λ e. d (sym e))) ∙ and-true (S m)

    step : (s : Bool) → count S m ≡ suc (count (without S k) m) → cond s (suc (count S m)) (count S m) ≡ suc (cond s (suc (count (without S k) m)) (count (without S k) m))
    step true e = ap suc e
    step false e = e

    go : (k ≡ m) ⊎ (k ≡ m → ⊥) → (k < m → count S m ≡ suc (count (without S k) m)) → count S (suc m) ≡ suc (count (without S k) (suc m))
    go (inr d) f = step (S m) (f (omega arith)) ∙ ap (λ s. suc (cond s (suc (count (without S k) m)) (count (without S k) m))) (sym (apart d))
    go (inl e) f =
        let gone : without S k m ≡ false = out (without S k m) (λ i. without_not S k m i (sym e)) in
        count_in S m (subst (λ j. j ∈ S) e h)
        ∙ ap suc (count_cong S (without S k) m (λ j l. sym (ap (λ b. S j && not b) (ne_eqb j k (λ d. omega arith)) ∙ and-true (S j))))
        ∙ ap suc (sym (count_out (without S k) m gone))

-- a set of two parts
pub count-parts : (S A B : Set) (m : ℕ) → ((k : ℕ) → S k ≡ (A k || B k)) → ((k : ℕ) → k ∈ A → k ∈ B → ⊥) → count S m ≡ count A m + count B m
unfolding count
count-parts S A B zero f d = refl
count-parts S A B (suc m) f d = ap (λ b. cond b (suc (count S m)) (count S m)) (f m) ∙ go (A m) (B m) refl refl (count-parts S A B m f d)
  where
    go : (a b : Bool) → A m ≡ a → B m ≡ b → count S m ≡ count A m + count B m → cond (a || b) (suc (count S m)) (count S m) ≡ cond a (suc (count A m)) (count A m) + cond b (suc (count B m)) (count B m)
    go true true i j e = absurd (d m i j)
    go true false i j e = omega arith
    go false true i j e = omega arith
    go false false i j e = e
