-- The lowest member of a set.
use Rattle.std.proofs.Common.{◌≡◌, ℕ, zero, suc, ◌+◌, ◌^◌, ◌<◌, ◌≤◌, Bool, true, false, cond, not, eqb, ◌⊎◌, is_some, Some, None, Option, MatchOption, IfSome, sym, refl, ap, ◌∙◌, inl, inr, arith}
use Rattle.std.proofs.lemmas.Bool.{cond-true, cond-false, cases_eq, eq-eqb, ne_eqb}
use Rattle.std.proofs.lemmas.Nat.Bits.{bit_at-trailing_zeros}
use Rattle.std.specs.Int.{trailing_zeros}
use mir.Syntax.{w32}
use Rattle.graphs.specs.Graph.{Set, ◌∈◌}
use Rattle.networks.specs.Words.{bits, first, first_from}
use Rattle.networks.proofs.Bits.{bits_zero}

-- what is found: none if no number from k on is in the set, and else the lowest that is
abbrev pub Finds : Set → ℕ → ℕ → Option ℕ → Type 0
Finds S k n r = MatchOption r ((j : ℕ) → k ≤ j → j < k + n → S j ≡ false) (λ i. (k ≤ i) × (i < k + n) × (i ∈ S) × ((j : ℕ) → k ≤ j → j < i → S j ≡ false))

pub is_first : (S : Set) (k n : ℕ) (r : Option ℕ) → Finds S k n r → r ≡ first_from S k n
unfolding first_from
is_first S k zero None h = refl
is_first S k zero (Some i) h = absurd (omega (arith, h.0, h.1))
is_first S k (suc n) None h = is_first S (suc k) n None (λ j le lt. h j (omega arith) (omega arith)) ∙ sym (cond-false (S k) (Some k) (first_from S (suc k) n) (h k (omega arith) (omega arith)))
is_first S k (suc n) (Some i) h = go (cases_eq k i) (is_first S (suc k) n (Some i))
  where
    go : (k ≡ i) ⊎ (k ≡ i → ⊥) → (Finds S (suc k) n (Some i) → Some i ≡ first_from S (suc k) n) → Some i ≡ first_from S k (suc n)
    go (inl e) ih = sym (cond-true (S k) (Some k) (first_from S (suc k) n) (ap S e ∙ h.2) ∙ ap Some e)
    go (inr ne) ih =
        ih (omega (arith, h.0), omega (arith, h.1), h.2, λ j le lt. h.3 j (omega arith) lt)
        ∙ sym (cond-false (S k) (Some k) (first_from S (suc k) n) (h.3 k (omega arith) (omega (arith, h.0))))

-- what is found is a member
pub first_member : (S : Set) (k n j : ℕ) → first_from S k n ≡ Some j → (j ∈ S) × (j < k + n)
unfolding first_from
first_member S k zero j e = let z : ◌≡◌ {A = ℕ} 0 1 = cc in absurd (omega arith)
first_member S k (suc n) j e = go (S k) refl e (first_member S (suc k) n j)
  where
    go : (b : Bool) → S k ≡ b → cond b (Some k) (first_from S (suc k) n) ≡ Some j → (first_from S (suc k) n ≡ Some j → (j ∈ S) × (j < suc k + n)) → (j ∈ S) × (j < k + suc n)
    go true m e ih = let same : k ≡ j = cc in (ap S (sym same) ∙ m, omega arith)
    go false m e ih = let r = ih e in (r.0, omega (arith, r.1))

-- no lower number is
pub first_lowest : (S : Set) (k n j i : ℕ) → first_from S k n ≡ Some j → k ≤ i → i < j → S i ≡ false
unfolding first_from
first_lowest S k zero j i e le lt = let z : ◌≡◌ {A = ℕ} 0 1 = cc in absurd (omega arith)
first_lowest S k (suc n) j i e le lt = go (S k) refl e (cases_eq k i) (first_lowest S (suc k) n j i)
  where
    go : (b : Bool) → S k ≡ b → cond b (Some k) (first_from S (suc k) n) ≡ Some j → (k ≡ i) ⊎ (k ≡ i → ⊥) → (first_from S (suc k) n ≡ Some j → suc k ≤ i → i < j → S i ≡ false) → S i ≡ false
    go true m e c ih = let same : k ≡ j = cc in absurd (omega arith)
    go false m e (inl same) ih = ap S (sym same) ∙ m
    go false m e (inr ne) ih = ih e (omega arith) lt

-- and where nothing is found there is none
pub first-none : (S : Set) (k n j : ℕ) → first_from S k n ≡ None → k ≤ j → j < k + n → S j ≡ false
unfolding first_from
first-none S k zero j e le lt = absurd (omega arith)
first-none S k (suc n) j e le lt = go (S k) refl e (cases_eq k j) (first-none S (suc k) n j)
  where
    go : (b : Bool) → S k ≡ b → cond b (Some k) (first_from S (suc k) n) ≡ None → (k ≡ j) ⊎ (k ≡ j → ⊥) → (first_from S (suc k) n ≡ None → suc k ≤ j → j < suc k + n → S j ≡ false) → S j ≡ false
    go true m e c ih = let z : ◌≡◌ {A = ℕ} 0 1 = cc in absurd (omega arith)
    go false m e (inl same) ih = ap S (sym same) ∙ m
    go false m e (inr ne) ih = ih e (omega arith) (omega arith)

-- the lowest 1 of a word is its first member
lowest_finds : (w : ℕ) → w < 2 ^ 32 → (r : Option ℕ) → is_some r ≡ not (eqb w 0) → IfSome r (λ k. k ≡ trailing_zeros w32 w) → Finds (bits w) 0 32 r
unfolding bits
lowest_finds w h r e f = go (cases_eq w 0) r e f
  where
    go : (w ≡ 0) ⊎ (w ≡ 0 → ⊥) → (r : Option ℕ) → is_some r ≡ not (eqb w 0) → IfSome r (λ k. k ≡ trailing_zeros w32 w) → Finds (bits w) 0 32 r
    go (inl z) None e f = λ j le lt. ap (λ v. bits v j) z ∙ bits_zero j
    go (inl z) (Some k) e f = let q = eq-eqb w 0 z in absurd (let n : true ≡ false = e ∙ ap not q in cc)
    go (inr ne) None e f = let q = ne_eqb w 0 ne in absurd (let n : false ≡ true = e ∙ ap not q in cc)
    go (inr ne) (Some k) e f =
        let t = bit_at-trailing_zeros w32 w (omega arith) h in
        (omega arith, omega (arith, f, t.0), ap (bits w) f ∙ ap (λ x. eqb x 1) t.1, λ j le lt. ap (λ x. eqb x 1) (t.2 j (omega (arith, f))))

pub lowest_is : (w : ℕ) → w < 2 ^ 32 → (r : Option ℕ) → is_some r ≡ not (eqb w 0) → IfSome r (λ k. k ≡ trailing_zeros w32 w) → r ≡ first (bits w)
lowest_is w h r e f = is_first (bits w) 0 32 r (lowest_finds w h r e f)
