-- Tables of text that hold a place's text at its number.
use Rattle.std.proofs.Common.{◌≡◌, ℕ, zero, suc, ◌+◌, ◌<◌, Bool, true, ◌&&◌, List, [], ◌∷◌, length, slice_index_or, Bor, ap, ◌∙◌, arith}
use Rattle.std.proofs.lemmas.Bool.{and_parts}
use Rattle.std.proofs.lemmas.Slice.Eq.{bytes_eq-Decides}
use Rattle.std.specs.Str.{bytes_eq}

-- whether the texts are those of k, k + 1 and so on
unfoldable pub all_read : (ℕ → List ℕ) → List (Bor (List ℕ)) → ℕ → Bool
all_read f [] k = true
all_read f (p ∷ ps) k = bytes_eq p.now (f k) && all_read f ps (suc k)

pub read_from : (f : ℕ → List ℕ) (ps : List (Bor (List ℕ))) (k j n : ℕ) (d : Bor (List ℕ)) → all_read f ps k ≡ true → j < length ps → k + j ≡ n → (slice_index_or ps j d).now ≡ f n
unfolding all_read
read_from f [] k j n d a l e = absurd (omega arith)
read_from f (p ∷ ps) k zero n d a l e = (bytes_eq-Decides p.now (f k)).0 (and_parts (bytes_eq p.now (f k)) _ a).0 ∙ ap f (omega arith)
read_from f (p ∷ ps) k (suc j) n d a l e = read_from f ps (suc k) j n d (and_parts (bytes_eq p.now (f k)) _ a).1 (omega arith) (omega arith)

pub read_at : (f : ℕ → List ℕ) (ps : List (Bor (List ℕ))) (k : ℕ) (d : Bor (List ℕ)) → all_read f ps 0 ≡ true → k < length ps → (slice_index_or ps k d).now ≡ f k
read_at f ps k d a l = read_from f ps 0 k k d a l (omega arith)
