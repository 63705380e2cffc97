-- What stands in the area of a system after it is written. Assumes nothing.
use Rattle.std.proofs.Common.{◌≡◌, ℕ, zero, suc, ◌+◌, ◌<◌, ◌≤◌, Bool, true, false, cond, ◌≢◌, List, length, get_or, set, sym, refl, ap, ◌∙◌, subst₂, inl, inr, arith, length-set, get_or-set_other, get_or-set_same}
use lib.ListN.{length-replicate}
use Rattle.std.proofs.lemmas.Bool.{cases_eq}
use Rattle.arithmetic.specs.Ops.{Ops}
use Rattle.graphs.specs.Graph.{Set, ◌∈◌, count}
use Rattle.linear.specs.Elimination.{cell, entry}
use Rattle.linear.specs.Inside.{SameSystem}
use Rattle.linear.proofs.Depends.{inside}
use Rattle.linear.proofs.Entries.{entry_same, entry_column, entry_row}
use Rattle.stories.specs.Assembly.{through, Parts, entry_of, right_of, size, blank_area, with_companions, with_row, written, assembled}
use Rattle.stories.specs.Steps.{solving}
use Rattle.stories.specs.Theorem.{FoundOn}
use Rattle.stories.proofs.Counts.{count_at, count-lt, count_mono}

-- turns that keep the length
pub turns_long : {A : Type 0} (B : Set) (f : ℕ → List A → List A) → ((k : ℕ) (w : List A) → length (f k w) ≡ length w) → (n : ℕ) (w : List A) → length (through (λ k w. cond (B k) (f k w) w) n w) ≡ length w
unfolding through
turns_long B f e zero w = refl
turns_long {A} B f e (suc n) w = go (B n) (through (λ k w. cond (B k) (f k w) w) n w) ∙ turns_long B f e n w
  where
    go : (b : Bool) (v : List A) → length (cond b (f n v) v) ≡ length v
    go true v = e n v
    go false v = refl

-- turns that keep what p tells of the list
pub turns_keep : {A X : Type 0} (B : Set) (f : ℕ → List A → List A) (p : List A → X) (n : ℕ) → ((k : ℕ) (w : List A) → k < n → k ∈ B → p (f k w) ≡ p w) → (w : List A) → p (through (λ k w. cond (B k) (f k w) w) n w) ≡ p w
unfolding through
turns_keep B f p zero e w = refl
turns_keep {A} {X} B f p (suc n) e w = go (B n) refl (through (λ k w. cond (B k) (f k w) w) n w) ∙ turns_keep B f p n (λ k w h. e k w (omega arith)) w
  where
    go : (b : Bool) → B n ≡ b → (v : List A) → p (cond b (f n v) v) ≡ p v
    go true i v = e n v (omega arith) i
    go false i v = refl

-- what the turn j tells, no later turn changes
pub turns_own : {A X : Type 0} (B : Set) (f : ℕ → List A → List A) (p : List A → X) (x : X) (L j n : ℕ) → j < n → j ∈ B → ((k : ℕ) (w : List A) → length (f k w) ≡ length w) → ((w : List A) → length w ≡ L → p (f j w) ≡ x) → ((k : ℕ) (w : List A) → j < k → k < n → k ∈ B → p (f k w) ≡ p w) → (w : List A) → length w ≡ L → p (through (λ k w. cond (B k) (f k w) w) n w) ≡ x
unfolding through
turns_own B f p x L j zero h i long own later w l = absurd (omega arith)
turns_own {A} {X} B f p x L j (suc n) h i long own later w l = elim (cases_eq j n) [
  | inl e ↦ here e (through (λ k w. cond (B k) (f k w) w) n w) (turns_long B f long n w ∙ l)
  | inr d ↦ go d (B n) refl (through (λ k w. cond (B k) (f k w) w) n w) ∙ turns_own B f p x L j n (omega arith) i long own (λ k w a b. later k w a (omega arith)) w l
]
  where
    here : j ≡ n → (v : List A) → length v ≡ L → p (cond (B n) (f n v) v) ≡ x
    here e v s = ap (λ b. p (cond b (f n v) v)) (sym (ap B e) ∙ i) ∙ ap (λ k. p (f k v)) (sym e) ∙ own v s

    go : (j ≡ n → ⊥) → (b : Bool) → B n ≡ b → (v : List A) → p (cond b (f n v) v) ≡ p v
    go d true m v = later n v (omega arith) (omega arith) m
    go d false m v = refl

module _ {M : Type 0} (o : Ops M) (c : Parts M) (few : size c ≤ 15) where
  place_le : (r : ℕ) → r < 32 → count c.unknown r ≤ 15
  place_le r h = let l = count_mono c.unknown r 32 (omega arith) in omega arith

  place_lt : (r : ℕ) → r < 32 → r ∈ c.unknown → count c.unknown r < size c
  place_lt r h m = count-lt c.unknown r 32 m h

  row_long : (t : ℕ) (w : List M) → length (with_row o c t w) ≡ length w
  unfolding with_row
  row_long t w = length-set _ _ _ ∙ turns_long c.unknown (λ r w. set w (cell (count c.unknown t) (count c.unknown r)) (entry_of o c t r)) (λ k w. length-set _ _ _) 32 w

  row_other : (t q k : ℕ) (w : List M) → q ≢ count c.unknown t → k ≤ 15 → entry o (with_row o c t w) q k ≡ entry o w q k
  unfolding with_row
  row_other t q k w d h =
      entry_row o _ (count c.unknown t) (size c) q k _ d few h
      ∙ turns_keep c.unknown (λ r w. set w (cell (count c.unknown t) (count c.unknown r)) (entry_of o c t r)) (λ w. entry o w q k) 32
      (λ r w l m. entry_row o w (count c.unknown t) (count c.unknown r) q k _ d (place_le r l) h) w

  row_own : (t r : ℕ) → t < 32 → t ∈ c.unknown → r < 32 → r ∈ c.unknown → (w : List M) → length w ≡ 304 → entry o (with_row o c t w) (count c.unknown t) (count c.unknown r) ≡ entry_of o c t r
  unfolding with_row
  row_own t r ht mt hr mr w l =
      let a = place_lt t ht mt in
      let b = place_lt r hr mr in
      entry_column o _ (count c.unknown t) (size c) (count c.unknown t) (count c.unknown r) _ (omega arith) few (omega arith)
      ∙ turns_own c.unknown (λ r w. set w (cell (count c.unknown t) (count c.unknown r)) (entry_of o c t r)) (λ w. entry o w (count c.unknown t) (count c.unknown r)) (entry_of o c t r) 304 r 32 hr mr
      (λ k w. length-set _ _ _)
      (λ w s. entry_same o w (count c.unknown t) (count c.unknown r) _ (omega arith) (omega arith) (omega arith))
      (λ k w lt lk mk. let z = count-lt c.unknown r k mr lt in entry_column o w (count c.unknown t) (count c.unknown k) (count c.unknown t) (count c.unknown r) _ (omega arith) (place_le k lk) (omega arith))
      w l

  row_right : (t : ℕ) → t < 32 → t ∈ c.unknown → (w : List M) → length w ≡ 304 → entry o (with_row o c t w) (count c.unknown t) (size c) ≡ right_of o c t
  unfolding with_row
  row_right t ht mt w l =
      let a = place_lt t ht mt in
      let s = turns_long c.unknown (λ r w. set w (cell (count c.unknown t) (count c.unknown r)) (entry_of o c t r)) (λ k w. length-set _ _ _) 32 w in
      entry_same o _ (count c.unknown t) (size c) _ (omega arith) few (omega arith)

  start_long : length (with_companions o c (blank_area o)) ≡ 304
  unfolding with_companions blank_area
  start_long = turns_long c.feeding (λ k w. set (set w k (c.conductance k)) (32 + k) (c.feed k)) (λ k w. length-set _ _ _ ∙ length-set _ _ _) 32 _ ∙ length-replicate 304 o.nought

  written-entry : (w : List M) → length w ≡ 304 → (t r : ℕ) → t < 32 → t ∈ c.unknown → r < 32 → r ∈ c.unknown → entry o (written o c w) (count c.unknown t) (count c.unknown r) ≡ entry_of o c t r
  written-entry w long t r ht mt hr mr =
      turns_own c.unknown (with_row o c) (λ w. entry o w (count c.unknown t) (count c.unknown r)) (entry_of o c t r) 304 t 32 ht mt row_long
      (row_own t r ht mt hr mr)
      (λ k w lt lk mk. let z = count-lt c.unknown t k mt lt in row_other k (count c.unknown t) (count c.unknown r) w (omega arith) (place_le r hr))
      w long

  written_right : (w : List M) → length w ≡ 304 → (t : ℕ) → t < 32 → t ∈ c.unknown → entry o (written o c w) (count c.unknown t) (size c) ≡ right_of o c t
  written_right w long t ht mt =
      turns_own c.unknown (with_row o c) (λ w. entry o w (count c.unknown t) (size c)) (right_of o c t) 304 t 32 ht mt row_long
      (row_right t ht mt)
      (λ k w lt lk mk. let z = count-lt c.unknown t k mt lt in row_other k (count c.unknown t) (size c) w (omega arith) few)
      w long

  pub assembled_long : length (assembled o c) ≡ 304
  unfolding assembled
  assembled_long = turns_long c.unknown (with_row o c) row_long 32 _ ∙ start_long

  pub assembled-entry : (t r : ℕ) → t < 32 → t ∈ c.unknown → r < 32 → r ∈ c.unknown → entry o (assembled o c) (count c.unknown t) (count c.unknown r) ≡ entry_of o c t r
  unfolding assembled
  assembled-entry = written-entry (with_companions o c (blank_area o)) start_long

  pub assembled-right : (t : ℕ) → t < 32 → t ∈ c.unknown → entry o (assembled o c) (count c.unknown t) (size c) ≡ right_of o c t
  unfolding assembled
  assembled-right = written_right (with_companions o c (blank_area o)) start_long

  -- an area that held anything else before the rows has the same system, and so the same is found
  pub found_on : (w : List M) → length w ≡ 304 → FoundOn o c w
  unfolding solving
  found_on w long =
      let old = assembled_long in
      let new : length (written o c w) ≡ 304 = turns_long c.unknown (with_row o c) row_long 32 w ∙ long in
      record {
        ok = (inside o).answers (size c) (written o c w) (assembled o c) few (omega arith) (omega arith) same;
        figures = λ r lt. (inside o).reads (size c) (written o c w) (assembled o c) few (omega arith) (omega arith) same r (size c) lt (omega arith);
      }
    where
      same : SameSystem o (size c) (written o c w) (assembled o c)
      same r k hr hk =
          let t = count_at c.unknown 32 r hr in
          elim (cases_eq k (size c)) [
            | inl e ↦ subst₂ (λ r k. entry o (written o c w) r k ≡ entry o (assembled o c) r k) t.1.1.1 (sym e) (written_right w long t.0 t.1.0 t.1.1.0 ∙ sym (assembled-right t.0 t.1.0 t.1.1.0))
            | inr d ↦
                let u = count_at c.unknown 32 k (omega arith) in
                subst₂ (λ r k. entry o (written o c w) r k ≡ entry o (assembled o c) r k) t.1.1.1 u.1.1.1
                (written-entry w long t.0 u.0 t.1.0 t.1.1.0 u.1.0 u.1.1.0 ∙ sym (assembled-entry t.0 u.0 t.1.0 t.1.1.0 u.1.0 u.1.1.0))
          ]

-- the places below the system: conductance and feed of each feeding branch stay there, also while the system is solved
module _ {M : Type 0} (o : Ops M) (c : Parts M) where
  pub companions_conductance : (k : ℕ) → k < 32 → k ∈ c.feeding → get_or (with_companions o c (blank_area o)) k o.nought ≡ c.conductance k
  unfolding with_companions blank_area
  companions_conductance k h m =
      turns_own c.feeding (λ k w. set (set w k (c.conductance k)) (32 + k) (c.feed k)) (λ w. get_or w k o.nought) (c.conductance k) 304 k 32 h m
      (λ k w. length-set _ _ _ ∙ length-set _ _ _)
      (λ w s. get_or-set_other _ (32 + k) k _ o.nought (omega arith) ∙ get_or-set_same w k _ o.nought (omega arith))
      (λ j w lt lj mj. get_or-set_other _ (32 + j) k _ o.nought (omega arith) ∙ get_or-set_other w j k _ o.nought (omega arith))
      (blank_area o) (length-replicate 304 o.nought)

  pub companions_feed : (k : ℕ) → k < 32 → k ∈ c.feeding → get_or (with_companions o c (blank_area o)) (32 + k) o.nought ≡ c.feed k
  unfolding with_companions blank_area
  companions_feed k h m =
      turns_own c.feeding (λ k w. set (set w k (c.conductance k)) (32 + k) (c.feed k)) (λ w. get_or w (32 + k) o.nought) (c.feed k) 304 k 32 h m
      (λ k w. length-set _ _ _ ∙ length-set _ _ _)
      (λ w s. let long = length-set w k (c.conductance k) in get_or-set_same _ (32 + k) _ o.nought (omega arith))
      (λ j w lt lj mj. get_or-set_other _ (32 + j) (32 + k) _ o.nought (omega arith) ∙ get_or-set_other w j (32 + k) _ o.nought (omega arith))
      (blank_area o) (length-replicate 304 o.nought)

  pub row_below : (t k : ℕ) (w : List M) → k < 64 → get_or (with_row o c t w) k o.nought ≡ get_or w k o.nought
  unfolding with_row
  row_below t k w h =
      get_or-set_other _ (cell (count c.unknown t) (size c)) k _ o.nought (omega arith)
      ∙ turns_keep c.unknown (λ r w. set w (cell (count c.unknown t) (count c.unknown r)) (entry_of o c t r)) (λ w. get_or w k o.nought) 32
      (λ r w l m. get_or-set_other w (cell (count c.unknown t) (count c.unknown r)) k _ o.nought (omega arith)) w

  assembled-below : (k : ℕ) → k < 64 → get_or (assembled o c) k o.nought ≡ get_or (with_companions o c (blank_area o)) k o.nought
  unfolding assembled
  assembled-below k h = turns_keep c.unknown (with_row o c) (λ w. get_or w k o.nought) 32 (λ t w l m. row_below t k w h) (with_companions o c (blank_area o))

  pub assembled-conductance : (k : ℕ) → k < 32 → k ∈ c.feeding → get_or (assembled o c) k o.nought ≡ c.conductance k
  assembled-conductance k h m = assembled-below k (omega arith) ∙ companions_conductance k h m

  pub assembled-feed : (k : ℕ) → k < 32 → k ∈ c.feeding → get_or (assembled o c) (32 + k) o.nought ≡ c.feed k
  assembled-feed k h m = assembled-below (32 + k) (omega arith) ∙ companions_feed k h m

  pub solving-below : (k : ℕ) → k < 64 → get_or (solving o c).left k o.nought ≡ get_or (assembled o c) k o.nought
  unfolding solving
  solving-below k h = (inside o).writes (size c) (assembled o c) k (λ r d hr hd. omega arith)

  pub solving-conductance : (k : ℕ) → k < 32 → k ∈ c.feeding → get_or (solving o c).left k o.nought ≡ c.conductance k
  solving-conductance k h m = solving-below k (omega arith) ∙ assembled-conductance k h m

  pub solving-feed : (k : ℕ) → k < 32 → k ∈ c.feeding → get_or (solving o c).left (32 + k) o.nought ≡ c.feed k
  solving-feed k h m = solving-below (32 + k) (omega arith) ∙ assembled-feed k h m

-- a list with y t at the place of each member t
unfoldable pub list_of : {M : Type 0} → Ops M → Set → (ℕ → M) → List M
list_of o S y = through (λ t w. cond (S t) (set w (count S t) (y t)) w) 32 (blank_area o)

pub list_of_at : {M : Type 0} (o : Ops M) (S : Set) (y : ℕ → M) (t : ℕ) → count S 32 ≤ 15 → t < 32 → t ∈ S → get_or (list_of o S y) (count S t) o.nought ≡ y t
unfolding list_of blank_area
list_of_at o S y t few h m =
    let a = count-lt S t 32 m h in
    turns_own S (λ t w. set w (count S t) (y t)) (λ w. get_or w (count S t) o.nought) (y t) 304 t 32 h m
    (λ k w. length-set _ _ _)
    (λ w s. get_or-set_same w (count S t) (y t) o.nought (omega arith))
    (λ k w lt lk mk. let z = count-lt S t k m lt in get_or-set_other w (count S k) (count S t) (y k) o.nought (omega arith))
    (blank_area o) (length-replicate 304 o.nought)
