-- Gathered sums are the sums of the parts that a frame and an area hold. Assumes nothing.
use Rattle.std.proofs.Common.{ltb, length, is_some, Some, None, Option, MatchOption, IfSome, count_by, ◌≡◌, ℕ, zero, suc, ◌+◌, Bool, true, false, cond, List, ◌∷◌, get_or, set, sym, ap, ◌∙◌, subst, ap₂, arith, get_or-set_other}
use Rattle.std.specs.List.{range_with_len}
use Rattle.std.proofs.lemmas.List.Sums.{sum_by-cons}
use Rattle.std.proofs.lemmas.List.{get_or-map, get_or_past, length-map}
use denote.Ref.{Bor}
use borrow.Author.Tests.{ltb-true, ltb-false}
use Rattle.sheet.specs.declared.row.Row.{Row}
use Rattle.arithmetic.specs.Ops.{Ops}
use Rattle.graphs.specs.Graph.{Set, count}
use Rattle.linear.specs.Elimination.{cell}
use Rattle.networks.specs.Words.{bits}
use Rattle.stories.specs.Assembly.{through, Parts, entry_of, right_of, size, with_row}
use Rattle.assembly.specs.declared.frame.Frame.{Frame}
use Rattle.assembly.specs.Frames.{entered, levels_of, Frames, Holds}
use Rattle.assembly.proofs.Members.{turn}

-- what a word's question says of the set that it means
pub asked : {S R : Set} (k : ℕ) {r b : Bool} → S ≡ R → r ≡ S k → r ≡ b → R k ≡ b
asked k e h i = sym (ap (λ S. S k) e) ∙ sym h ∙ i

-- writing the system leaves what it is made of
pub holds_written : {M : Type 0} (o : Ops M) (c : Parts M) (w : List M) (r j : ℕ) (x : M) → Holds o c w → Holds o c (set w (cell r j) x)
holds_written o c w r j x h = record {
  conductance = λ k l m. get_or-set_other w (cell r j) k x o.nought (omega arith) ∙ h.conductance k l m;
  feed = λ k l m. get_or-set_other w (cell r j) (32 + k) x o.nought (omega arith) ∙ h.feed k l m;
}

holds_if : {M : Type 0} (o : Ops M) (c : Parts M) (w : List M) (b : Bool) (r j : ℕ) (x : M) → Holds o c w → Holds o c (cond b (set w (cell r j) x) w)
holds_if o c w true r j x h = holds_written o c w r j x h
holds_if o c w false r j x h = h

-- one entry of a row
abbrev pub entry_put : {M : Type 0} → Ops M → Parts M → ℕ → ℕ → List M → List M
entry_put o c t r w = set w (cell (count c.unknown t) (count c.unknown r)) (entry_of o c t r)

holds_entries : {M : Type 0} (o : Ops M) (c : Parts M) (t n : ℕ) (w : List M) → Holds o c w → Holds o c (through (turn (entry_put o c t) c.unknown) n w)
unfolding through
holds_entries o c t zero w h = h
holds_entries o c t (suc n) w h = holds_if o c _ (c.unknown n) (count c.unknown t) (count c.unknown n) (entry_of o c t n) (holds_entries o c t n w h)

-- places among the members of a set
count_more : (S : Set) (k : ℕ) → count S (k + 1) ≡ count S k + cond (S k) 1 0
unfolding count
count_more S k = ap (count S) (let s : k + 1 ≡ suc k = omega arith in s) ∙ go (S k) (count S k)
  where
    go : (b : Bool) (n : ℕ) → cond b (suc n) n ≡ n + cond b 1 0
    go true n = omega arith
    go false n = omega arith

count_by_cons : (S : Set) (k : ℕ) (ks : List ℕ) → count_by S (k ∷ ks) ≡ cond (S k) 1 0 + count_by S ks
count_by_cons S k ks = sum_by-cons (λ k. cond (S k) 1 0) k ks

counted-from : (S : Set) (k n : ℕ) → count S k + count_by S (range_with_len k n) ≡ count S (k + n)
counted-from S k zero = omega (arith, ap (count S) (let e : k ≡ k + 0 = omega arith in e))
counted-from S k (suc n) =
    omega (arith, count_more S k, counted-from S (k + 1) n, ap (count S) (let e : k + 1 + n ≡ k + suc n = omega arith in e), count_by_cons S k (range_with_len (k + 1) n))

pub counted : (S : Set) (n : ℕ) → count_by S (range_with_len 0 n) ≡ count S n
unfolding count
counted S n = omega (arith, counted-from S 0 n, ap (count S) (let e : 0 + n ≡ n = omega arith in e))

-- the same of code that holds such a list
module _ {M : Type 0} (o : Ops M) (c : Parts M) where
  pub entry-kept : (t r : ℕ) (w v : List M) → Holds o c w → v ≡ entry_put o c t r w → Holds o c v
  entry-kept t r w v h e = subst (Holds o c) (sym e) (holds_written o c w (count c.unknown t) (count c.unknown r) (entry_of o c t r) h)

  pub entered-kept : (t : ℕ) (w v : List M) → Holds o c w → v ≡ entered o c t w → Holds o c v
  unfolding entered
  entered-kept t w v h e = subst (Holds o c) (sym e) (holds_entries o c t 32 w h)

  pub row_kept : (t : ℕ) (w v : List M) → Holds o c w → v ≡ with_row o c t w → Holds o c v
  unfolding with_row
  row_kept t w v h e = subst (Holds o c) (sym e) (holds_written o c _ (count c.unknown t) (size c) (right_of o c t) (holds_entries o c t 32 w h))

  module _ (f : Frame) (fr : Frames c f) where
    -- places among the unknowns
    pub place_is : (k n : ℕ) → n ≡ count_by (bits f.unknown) (range_with_len 0 k) → n ≡ count c.unknown k
    place_is k n e = e ∙ counted (bits f.unknown) k ∙ ap (λ S. count S k) fr.unknown

    -- an entry stands at the places of its unknowns
    pub entry_written :
        (t r : ℕ) (w v : List M) (x : M) (row column place : ℕ) →
        row ≡ count_by (bits f.unknown) (range_with_len 0 t) → column ≡ count_by (bits f.unknown) (range_with_len 0 r) →
        x ≡ entry_of o c t r → place ≡ cell row column → v ≡ set w place x → v ≡ entry_put o c t r w
    entry_written t r w v x row column place i j d p q =
        q ∙ ap (set w place) d
        ∙ ap (λ (k : ℕ). set w k (entry_of o c t r)) (p ∙ ap₂ (λ (a b : ℕ). cell a b) (place_is t row i) (place_is r column j))

    -- a row is its entries and its right side
    pub row_written :
        (t : ℕ) (w u v : List M) (x : M) (row column place : ℕ) → u ≡ entered o c t w →
        row ≡ count_by (bits f.unknown) (range_with_len 0 t) → column ≡ count_by (bits f.unknown) (range_with_len 0 32) →
        x ≡ right_of o c t → place ≡ cell row column → v ≡ set u place x → v ≡ with_row o c t w
    unfolding with_row entered
    row_written t w u v x row column place e i j d p q =
        q ∙ ap (λ u. set u place x) e ∙ ap (set (entered o c t w) place) d
        ∙ ap (λ (k : ℕ). set (entered o c t w) k (right_of o c t)) (p ∙ ap₂ (λ (a b : ℕ). cell a b) (place_is t row i) (place_is 32 column j))

-- the level of a row that is looked up
pub level_read :
    {V M : Type 0} (o : Ops M) (mean : V → M) (rows : List (Row V)) (v : ℕ) (found : Option (Bor (Row V))) (y z : V) → is_some found ≡ ltb v (length rows) → IfSome found (λ r. r.now ≡ get_or rows v r.now) →
    MatchOption found (y ≡ z) (λ r. y ≡ r.now.value) → mean z ≡ o.nought → mean y ≡ levels_of o mean rows v
unfolding levels_of
level_read o mean rows v None y z e i q n =
    let long = length-map rows (λ r. mean r.value) in
    let past = ltb-false v (length rows) (sym e) in
    ap mean q ∙ n ∙ sym (get_or_past _ v o.nought (omega arith))
level_read o mean rows v (Some r) y z e i q n =
    let lt = ltb-true v (length rows) (sym e) in
    ap mean q ∙ ap (λ (r : Row _). mean r.value) i ∙ sym (get_or-map (λ r. mean r.value) rows v r.now o.nought lt)
