-- The tree's call among those that show something. Assumes nothing.
use Rattle.std.proofs.Common.{◌≡◌, ℕ, Bool, true, false, List, [], Some, None, Option, sym, refl, ap, ◌∙◌, arith}
use Rattle.std.proofs.lemmas.Bool.{both_ways}
use Rattle.sheet.specs.declared.refusal.Shown.{Shown}
use Rattle.sheet.specs.Refusals.{Answer, shown_of}
use Rattle.graphs.specs.Graph.{Set}
use Rattle.topology.specs.Trees.{loose, late, voltage_loop, current_cut, tree_of, showing as showing_first}
use Rattle.networks.specs.Words.{first}
use Rattle.networks.proofs.Firsts.{first_member, first-none}
use Rattle.stories.specs.Called.{CallShows}
use Rattle.stories.specs.Networks.{any}
use Rattle.stories.specs.Steps.{showing}
use Rattle.stories.proofs.Networks.{any_none, none_any}

-- what is shown of the first, if there is one
abbrev words_of : (ℕ → Shown) → Option ℕ → List ℕ
words_of f None = []
words_of f (Some k) = shown_of (Some (f k))

some_any : (S : Set) (k : ℕ) → first S ≡ Some k → any S 32 ≡ true
some_any S k m = go (any S 32) refl
  where
    go : (b : Bool) → any S 32 ≡ b → b ≡ true
    go true e = refl
    go false e = let f = first_member S 0 32 k m in absurd (both_ways (S k) (any_none S 32 e k (omega (arith, f.1))) f.0)

first_any : (S : Set) → first S ≡ None → any S 32 ≡ false
first_any S m = none_any S 32 (λ k h. first-none S 0 32 k m (omega arith) (omega arith))

-- refused for the first that there is, or where there is any
same : {X : Type 0} (n : ℕ) (f : ℕ → Shown) (S : Set) (rest rest' : Answer X) → rest ≡ rest' → showing_first n f (first S) rest ≡ showing n (words_of f (first S)) (any S 32) rest'
same n f S rest rest' e = go (first S) refl
  where
    go : (l : Option ℕ) → first S ≡ l → showing_first n f l rest ≡ showing n (words_of f l) (any S 32) rest'
    go None m = e ∙ sym (ap (λ b. showing n [] b rest') (first_any S m))
    go (Some k) m = sym (ap (λ b. showing n (shown_of (Some (f k))) b rest') (some_any S k m))

pub call_shows : CallShows
unfolding tree_of
call_shows = (
  record { loop = λ p. words_of (voltage_loop p) (first (loose p)); cut = λ p. words_of (current_cut p) (first (late p)) },
  λ p. same 12 (voltage_loop p) (loose p) _ _ (same 13 (current_cut p) (late p) _ _ refl),
)
