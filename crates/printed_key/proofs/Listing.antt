-- The words of a set's members, lowest first, and what of them is still to be written.
use Rattle.std.proofs.Common.{◌≡◌, ℕ, zero, suc, ◌<◌, false, cond, not, ◌&&◌, eqb, ◌⊎◌, Some, None, List, [], ◌∷◌, ◌++◌, sym, refl, ap, ap₂, ◌∙◌, inl, inr, append_assoc, append-nil, arith}
use Rattle.std.proofs.lemmas.Bool.{cond-true, cond-false, cases_eq, ne_eqb, eq-eqb, and_right}
use mathlib.Core.Bool.{and-true}
use Rattle.std.specs.declared.fmt.Formatter.{Formatter}
use Rattle.std.specs.Fmt.{HasWritten}
use Rattle.std.proofs.Output.{has_written_append, has_written_of_eq}
use Rattle.graphs.specs.Graph.{Set, ◌∈◌, without}
use Rattle.sheet.specs.declared.refusal.Shown.{Shown}
use Rattle.networks.specs.Words.{bits, first}
use Rattle.networks.proofs.Firsts.{first_member, first_lowest, first-none}
use Rattle.printed_key.specs.Blocks.{sided}
use Rattle.printed_key.specs.Text.{Word, spaced, listed}

-- the word of a number, where it is a member
abbrev pub chosen : (ℕ → Word) → Set → ℕ → List Word
chosen w S k = cond (S k) (w k ∷ []) []

-- that of a member of a shown row
abbrev pub word_in : Shown → ℕ → Word
word_in s k = sided (bits s.against k) k

module _ (w : ℕ → Word) where
  none_chosen : (S : Set) (n : ℕ) → ((j : ℕ) → j < n → S j ≡ false) → listed (chosen w S) n ≡ []
  unfolding listed
  none_chosen S zero h = refl
  none_chosen S (suc n) h = ap₂ (λ (a b : List Word). a ++ b) (none_chosen S n (λ j l. h j (omega arith))) (cond-false (S n) _ _ (h n (omega arith)))

  lowest_chosen : (S : Set) (k n : ℕ) → k ∈ S → ((j : ℕ) → j < k → S j ≡ false) → k < n → listed (chosen w S) n ≡ w k ∷ listed (chosen w (without S k)) n
  unfolding listed
  lowest_chosen S k zero m low l = absurd (omega arith)
  lowest_chosen S k (suc n) m low l = go (cases_eq n k) (lowest_chosen S k n m low)
    where
      rest : List Word
      rest = listed (chosen w (without S k)) n

      outside : (j : ℕ) → S j ≡ false → without S k j ≡ false
      outside j e = ap (λ t. t && not (eqb j k)) e

      go : (n ≡ k) ⊎ (n ≡ k → ⊥) → (k < n → listed (chosen w S) n ≡ w k ∷ rest) → listed (chosen w S) n ++ chosen w S n ≡ w k ∷ (rest ++ chosen w (without S k) n)
      go (inl e) ih =
          ap₂ (λ (a b : List Word). a ++ b) (none_chosen S n (λ j i. low j (omega arith))) (cond-true (S n) _ _ (ap S e ∙ m))
          ∙ ap (λ (j : ℕ). w j ∷ []) e
          ∙ ap (λ (ws : List Word). w k ∷ ws) (sym (ap₂ (λ (a b : List Word). a ++ b)
          (none_chosen (without S k) n (λ j i. outside j (low j (omega arith))))
          (cond-false (without S k n) _ _ (and_right (S n) _ (ap not (eq-eqb n k e))))))
      go (inr ne) ih =
          let same : without S k n ≡ S n = ap (λ t. S n && not t) (ne_eqb n k ne) ∙ and-true (S n) in
          ap (λ (a : List Word). a ++ chosen w S n) (ih (omega arith))
          ∙ ap (λ t. w k ∷ (rest ++ cond t (w n ∷ []) [])) (sym same)

  spaced_lowest : (S R : Set) (k : ℕ) → Some k ≡ first S → R ≡ without S k → spaced (listed (chosen w S) 32) ≡ (32 ∷ w k) ++ spaced (listed (chosen w R) 32)
  unfolding spaced
  spaced_lowest S R k f e =
      let found = first_member S 0 32 k (sym f) in
      ap spaced (lowest_chosen S k 32 found.0 (λ j l. first_lowest S 0 32 k j (sym f) (omega arith) l) found.1)
      ∙ ap (λ (T : Set). 32 ∷ (w k ++ spaced (listed (chosen w T) 32))) (sym e)

  spaced_none : (S : Set) → None ≡ first S → spaced (listed (chosen w S) 32) ≡ []
  unfolding spaced
  spaced_none S f = ap spaced (none_chosen S 32 (λ j l. first-none S 0 32 j (sym f) (omega arith) l))

-- the words of R are written but for those of the members of S
abbrev pub Remains : {W : Type 0} → (W → List ℕ → W → Type 0) → (ℕ → Word) → Formatter W → Formatter W → Set → Set → Type 0
Remains took w f g R S = (bs : List ℕ) × HasWritten took f bs g × (bs ++ spaced (listed (chosen w S) 32) ≡ spaced (listed (chosen w R) 32))

module _ {W : Type 0} (took : W → List ℕ → W → Type 0) (w : ℕ → Word) (f g : Formatter W) (R S : Set) where
  pub lowest_written : (T : Set) (k : ℕ) (h : Formatter W) → Remains took w f g R S → Some k ≡ first S → T ≡ without S k → HasWritten took g (32 ∷ w k) h → Remains took w f h R T
  lowest_written T k h r l e q = (
    r.0 ++ (32 ∷ w k),
    has_written_append took _ _ _ _ _ r.1 q,
    append_assoc r.0 (32 ∷ w k) _ ∙ ap (λ (x : List ℕ). r.0 ++ x) (sym (spaced_lowest w S T k l e)) ∙ r.2,
  )

  pub all_written : Remains took w f g R S → None ≡ first S → HasWritten took f (spaced (listed (chosen w R) 32)) g
  all_written r n = has_written_of_eq took _ _ _ _ (sym (append-nil r.0) ∙ ap (λ (x : List ℕ). r.0 ++ x) (sym (spaced_none w S n)) ∙ r.2) r.1
