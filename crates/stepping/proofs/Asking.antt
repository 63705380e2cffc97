-- The members of a word asked one after another. Assumes nothing.
use Rattle.std.proofs.Common.{◌≡◌, ℕ, zero, suc, ◌<◌, Bool, true, false, ◌&&◌, ◌||◌, not, eqb, List, get_or, Some, None, sym, refl, ap, ◌∙◌, ap₂, inl, inr, arith}
use Rattle.std.proofs.lemmas.Bool.{and_parts, cases_eq, ne_eqb}
use mathlib.Core.Bool.{and-true}
use Rattle.arithmetic.specs.Ops.{Ops}
use Rattle.sheet.specs.declared.plan.Plan.{Plan}
use Rattle.graphs.specs.Graph.{Set, ◌∈◌, without, both}
use Rattle.networks.specs.Networks.{placed}
use Rattle.networks.specs.Words.{first}
use Rattle.networks.proofs.Firsts.{first_member, first-none}
use Rattle.stories.specs.Networks.{any}
use Rattle.stepping.specs.Steps.{unsound_at}
use Rattle.stepping.proofs.Settling.{any-alike}

-- what is left of those taken from is within
pub less_within : (S L R : Set) (k : ℕ) → ((j : ℕ) → j ∈ L → j ∈ S) → R ≡ without L k → (j : ℕ) → j ∈ R → j ∈ S
less_within S L R k within e j m = within j (and_parts (L j) _ (sym (ap (λ (T : Set). T j) e) ∙ m)).0

-- members are asked one after another, none so far with a yes
pub record Asked (U S L : Set) : Type 0 where
  pub within : (k : ℕ) → k ∈ L → k ∈ S
  pub rest : any (both L U) 32 ≡ any (both S U) 32

any_member : (U : Set) (n k : ℕ) → k < n → k ∈ U → any U n ≡ true
unfolding any
any_member U zero k l m = absurd (omega arith)
any_member U (suc n) k l m = elim (cases_eq n k) [
  | inl e ↦ ap (λ b. b || any U n) (ap U e ∙ m)
  | inr ne ↦ ap (λ b. U n || b) (any_member U n k (omega arith) m) ∙ last (U n)
]
  where
    last : (b : Bool) → (b || true) ≡ true
    last true = refl
    last false = refl

no_any : (n : ℕ) → any (λ k. false) n ≡ false
unfolding any
no_any zero = refl
no_any (suc n) = no_any n

module _ (U S : Set) where
  pub asked_start : Asked U S S
  asked_start = record { within = λ k m. m; rest = refl }

  pub asked_yes : (L : Set) (k : ℕ) → Asked U S L → Some k ≡ first L → k ∈ U → any (both S U) 32 ≡ true
  asked_yes L k r e m =
      let found = first_member L 0 32 k (sym e) in
      any_member (both S U) 32 k found.1 (ap₂ (λ (a b : Bool). a && b) (r.within k found.0) m)

  pub asked_no : (L R : Set) (k : ℕ) → Asked U S L → Some k ≡ first L → R ≡ without L k → U k ≡ false → Asked U S R
  asked_no L R k r e d fine = record {
    within = less_within S L R k r.within d;
    rest = ap (λ (T : Set). any (both T U) 32) d ∙ any-alike _ _ 32 (λ j l. same j) ∙ r.rest;
  }
    where
      none : (l : Bool) → (l && false) ≡ ((l && false) && false) → (l && false) ≡ false
      none true h = refl
      none false h = refl

      at : (l u e : Bool) → u ≡ false → ((l && not e) && u) ≡ (l && u)
      at true true e h = absurd (let x : true ≡ false = h in cc)
      at true false true h = refl
      at true false false h = refl
      at false u e h = refl

      same : (j : ℕ) → ((L j && not (eqb j k)) && U j) ≡ (L j && U j)
      same j = elim (cases_eq j k) [
        | inl d ↦ at (L j) (U j) (eqb j k) (ap U d ∙ fine)
        | inr ne ↦ ap (λ t. (L j && not t) && U j) (ne_eqb j k ne) ∙ ap (λ t. t && U j) (and-true (L j))
      ]

  pub asked_none : (L : Set) → Asked U S L → None ≡ first L → any (both S U) 32 ≡ false
  asked_none L r e = sym r.rest ∙ any-alike (both L U) (λ k. false) 32 (λ j l. ap (λ b. b && U j) (first-none L 0 32 j (sym e) (omega arith) l)) ∙ no_any 32

-- those asked are placed, as what is asked says itself
pub placed_asked : {M : Type 0} (o : Ops M) (p : Plan) (currents voltages : List M) → any (both (placed p) (unsound_at o p currents voltages)) 32 ≡ any (unsound_at o p currents voltages) 32
placed_asked o p currents voltages = any-alike _ _ 32 (λ k l. twice (placed p k) (not (o.is_sound (get_or currents k o.nought) && o.is_sound (get_or voltages k o.nought))))
  where
    twice : (a b : Bool) → (a && (a && b)) ≡ (a && b)
    twice true b = refl
    twice false b = refl
