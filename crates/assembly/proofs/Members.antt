-- Loops over the members of a word, lowest first. Assumes nothing.
use Rattle.std.proofs.Common.{◌≡◌, ℕ, zero, suc, ◌<◌, Bool, true, false, cond, not, ◌&&◌, ◌||◌, eqb, ◌⊎◌, Some, None, sym, refl, ap, ◌∙◌, inl, inr, arith}
use Rattle.std.proofs.lemmas.Bool.{cond-true, cond-false, cases_eq, ne_eqb, eq-eqb, and_parts, and_right}
use mathlib.Core.Bool.{and-true}
use Rattle.sheet.specs.declared.refusal.Shown.{Shown}
use Rattle.arithmetic.specs.Ops.{Ops}
use Rattle.graphs.specs.Graph.{Set, ◌∈◌, without, Sign, none}
use Rattle.topology.specs.Matrices.{entry}
use Rattle.networks.specs.Words.{bits, first}
use Rattle.networks.proofs.Firsts.{first_member, first_lowest, first-none}
use Rattle.stories.specs.Assembly.{through, taken}
use Rattle.assembly.specs.Frames.{gathered}

module _ {W : Type 0} (f : ℕ → W → W) where
  -- the turn of a number that is a member
  abbrev pub turn : Set → ℕ → W → W
  turn S k a = cond (S k) (f k a) a

  -- turns without a member
  no_turns : (S : Set) (n : ℕ) (a : W) → ((j : ℕ) → j < n → S j ≡ false) → through (turn S) n a ≡ a
  unfolding through
  no_turns S zero a h = refl
  no_turns S (suc n) a h = cond-false (S n) _ _ (h n (omega arith)) ∙ no_turns S n a (λ j l. h j (omega arith))

  -- turns from the lowest member on
  turns_from : (S : Set) (k n : ℕ) (a : W) → k ∈ S → ((j : ℕ) → j < k → S j ≡ false) → k < n
      → through (turn S) n a ≡ through (turn (without S k)) n (f k a)
  unfolding through
  turns_from S k zero a m low l = absurd (omega arith)
  turns_from S k (suc n) a m low l = go (cases_eq n k) (turns_from S k n a m low)
    where
      outside : (j : ℕ) → S j ≡ false → without S k j ≡ false
      outside j e = ap (λ t. t && not (eqb j k)) e

      go : (n ≡ k) ⊎ (n ≡ k → ⊥) → (k < n → through (turn S) n a ≡ through (turn (without S k)) n (f k a)) → turn S n (through (turn S) n a) ≡ turn (without S k) n (through (turn (without S k)) n (f k a))
      go (inl e) ih =
          cond-true (S n) _ _ (ap S e ∙ m)
          ∙ ap (f n) (no_turns S n a (λ j i. low j (omega arith)))
          ∙ ap (λ (j : ℕ). f j a) e
          ∙ sym (no_turns (without S k) n (f k a) (λ j i. outside j (low j (omega arith))))
          ∙ sym (cond-false (without S k n) _ _ (and_right (S n) _ (ap not (eq-eqb n k e))))
      go (inr ne) ih =
          let same : without S k n ≡ S n = ap (λ t. S n && not t) (ne_eqb n k ne) ∙ and-true (S n) in
          ap (turn S n) (ih (omega arith))
          ∙ ap (λ t. cond t (f n (through (turn (without S k)) n (f k a))) (through (turn (without S k)) n (f k a))) (sym same)

  -- a loop over the members of S, of which R is left: these make of what stands now what all make of what stood first
  pub record Going (S R : Set) (old now : W) : Type 0 where
    pub within : (k : ℕ) → k ∈ R → k ∈ S
    pub same : through (turn R) 32 now ≡ through (turn S) 32 old

  pub begun : (S R : Set) (a b : W) → R ≡ S → a ≡ b → Going S R a b
  begun S R a b e d = record { within = λ k m. sym (ap (λ T. T k) e) ∙ m; same = ap (λ T. through (turn T) 32 b) e ∙ ap (through (turn S) 32) (sym d) }

  pub taken_in : (S R : Set) (old now : W) (k : ℕ) → Going S R old now → Some k ≡ first R → (k ∈ S) × (k < 32)
  taken_in S R old now k g i = let m = first_member R 0 32 k (sym i) in (g.within k m.0, m.1)

  pub goes_on : (S R Q : Set) (old now next : W) (k : ℕ) → Going S R old now → Some k ≡ first R → Q ≡ without R k → next ≡ f k now → Going S Q old next
  goes_on S R Q old now next k g i e d =
      let m = first_member R 0 32 k (sym i) in
      record {
        within = λ j h. g.within j (and_parts (R j) _ (sym (ap (λ T. T j) e) ∙ h)).0;
        same =
            ap (λ T. through (turn T) 32 next) e
            ∙ ap (through (turn (without R k)) 32) d
            ∙ sym (turns_from R k 32 now m.0 (λ j l. first_lowest R 0 32 k j (sym i) (omega arith) l) m.1)
            ∙ g.same;
      }

  pub ended : (S R : Set) (old now : W) → Going S R old now → None ≡ first R → now ≡ through (turn S) 32 old
  ended S R old now g i = sym (no_turns R 32 now (λ j l. first-none R 0 32 j (sym i) (omega arith) l)) ∙ g.same

module _ {M : Type 0} (o : Ops M) (s : ℕ → Sign) (x : ℕ → M) where
  -- one turn of a gathering
  abbrev pub taking : ℕ → M → M
  taking k a = taken o (s k) (x k) a

  -- members without a sign can be left out
  pub gathered_signed : (S R : Set) (a : M) → ((k : ℕ) → k < 32 → k ∈ S → k ∈ R) → ((k : ℕ) → k < 32 → k ∈ R → S k ≡ false → s k ≡ none) → gathered o S s x a ≡ gathered o R s x a
  unfolding gathered through
  gathered_signed S R a within silent = go 32 (omega arith)
    where
      one : (k : ℕ) (a : M) (b c : Bool) → S k ≡ b → R k ≡ c → k < 32 → cond b (taken o (s k) (x k) a) a ≡ cond c (taken o (s k) (x k) a) a
      one k a true true e f l = refl
      one k a true false e f l = absurd (let m = within k l e in let n : true ≡ false = cc in cc)
      one k a false true e f l = sym (ap (λ t. taken o t (x k) a) (silent k l f e))
      one k a false false e f l = refl

      go : (n : ℕ) → n < 33 → through (turn taking S) n a ≡ through (turn taking R) n a
      go zero l = refl
      go (suc n) l = one n _ (S n) (R n) refl refl (omega arith) ∙ ap (turn taking R n) (go n (omega arith))

-- a place that is neither a member of a row nor against has no sign
pub no_sign : (row : Shown) (k : ℕ) → bits row.members k ≡ false → bits row.against k ≡ false → entry row k ≡ none
no_sign row k m a = cond-false (bits row.against k) _ _ a ∙ cond-false (bits row.members k) _ _ m

-- a member that is not among those with a sign is in neither word of the row
pub left_out : (b c d : Bool) → b ≡ true → (b && (c || d)) ≡ false → (c ≡ false) × (d ≡ false)
left_out true false false m e = (refl, refl)
left_out true false true m e = absurd (let n : true ≡ false = e in cc)
left_out true true d m e = absurd (let n : true ≡ false = e in cc)
left_out false c d m e = absurd (let n : false ≡ true = m in cc)
