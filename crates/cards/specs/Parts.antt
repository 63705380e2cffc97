-- Pieces of a text between separators: lines between bytes 10, words between bytes 32. Assumes nothing.
--
-- reach s bs    how many bytes of bs stand before the first s
-- further       one byte more, unless it is the separator
-- parts s bs    the pieces of bs between bytes s, with the empty ones
-- onto          the pieces with one more byte before them
-- before        the same, where the byte may be the separator
use Rattle.std.specs.Prelude.{ℕ, suc, Bool, true, false, List, [], ◌∷◌, ◌==◌}

abbrev pub further : Bool → ℕ → ℕ
further true n = 0
further false n = suc n

abbrev pub reach : ℕ → List ℕ → ℕ
reach s [] = 0
reach s (b ∷ bs) = further (b == s) (reach s bs)

abbrev pub onto : ℕ → List (List ℕ) → List (List ℕ)
onto b [] = (b ∷ []) ∷ []
onto b (w ∷ ws) = (b ∷ w) ∷ ws

abbrev pub before : Bool → ℕ → List (List ℕ) → List (List ℕ)
before true b ws = [] ∷ ws
before false b ws = onto b ws

unfoldable pub parts : ℕ → List ℕ → List (List ℕ)
parts s [] = [] ∷ []
parts s (b ∷ bs) = before (b == s) b (parts s bs)
