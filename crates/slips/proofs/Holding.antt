-- What a writer holds, from opening to sealing. Assumes nothing.
use Rattle.std.proofs.Common.{◌≡◌, ℕ, ◌+◌, ◌*◌, ◌/◌, ◌^◌, ◌<◌, ◌≤◌, Bool, true, false, not, T, ltb, List, [], ◌∷◌, ◌++◌, length, get_or, take, ℤ, sym, refl, ap, ◌∙◌, subst, append_assoc, arith}
use Rattle.std.proofs.lemmas.List.{append-nil, length-append}
use Rattle.sheet.specs.Refusals.{granted, refuse, Verdict}
use Rattle.slips.specs.Bits.{put_bits, low, zeroed}
use Rattle.slips.specs.declared.row.SlipRow.{SlipRow}
use Rattle.slips.specs.Slips.{Slip, is_row, row_bits, rows_bits, slip_bits, next_of, Rising}
use Rattle.slips.specs.Writing.{opened, row_answer, kept, Given, Past, Packed, Holds, with_row, ReadsBack}
use Rattle.slips.proofs.Ending.{opened_wide}
use Rattle.slips.proofs.Packing.{packed_bits, packed_none, past_bits, small_low}
use Rattle.slips.proofs.Putting.{length-low, length-zeroed, length-put_bits}
use Rattle.slips.proofs.Reading.{row_is, length_row, small_row, slip_back}

-- ---- opening
tree_alone : (tree : ℕ) → slip_bits (record { tree = tree; rows = [] }) ≡ low 32 tree
unfolding slip_bits rows_bits
tree_alone tree = append-nil (low 32 tree)

none_rising : Rising 0 []
unfolding Rising
none_rising = tt

pub opened_holds : (tree : ℕ) (area : List ℕ) → tree < 2 ^ 32 → 280 ≤ length area → Holds (record { tree = tree; rows = [] }) (opened tree area) 32 0
unfolding next_of
opened_holds tree area w r =
    let is = opened_wide tree area r in
    let long : length (opened tree area) ≡ length area = ap length is ∙ length-put_bits (zeroed 280 area) 0 (low 32 tree) ∙ length-zeroed 280 area in
    record {
      proper = record { word = w; rising = none_rising };
      roomy = omega arith;
      packed =
          subst (λ (bs : List ℕ). Packed bs (opened tree area)) (sym (tree_alone tree))
          (subst (Packed (low 32 tree)) (sym is)
          (packed_bits (low 32 tree) [] (zeroed 280 area) 0 (small_low 32 tree) refl (omega (arith, length-low 32 tree)) (omega (arith, length-zeroed 280 area)) (packed_none area)));
      place = sym (ap length (tree_alone tree) ∙ length-low 32 tree);
      above = refl;
    }

-- ---- a row
rows_push : (rs : List SlipRow) (r : SlipRow) → rows_bits (rs ++ r ∷ []) ≡ rows_bits rs ++ row_bits r.number r.entries
unfolding rows_bits
rows_push [] r = append-nil (row_bits r.number r.entries)
rows_push (x ∷ rs) r =
    ap (λ (bs : List ℕ). row_bits x.number x.entries ++ bs) (rows_push rs r)
    ∙ sym (append_assoc (row_bits x.number x.entries) (rows_bits rs) (row_bits r.number r.entries))

next_push : (n : ℕ) (rs : List SlipRow) (r : SlipRow) → next_of n (rs ++ r ∷ []) ≡ r.number + 1
unfolding next_of
next_push n [] r = refl
next_push n (x ∷ rs) r = next_push (x.number + 1) rs r

rising_push : (n : ℕ) (rs : List SlipRow) (r : SlipRow) → Rising n rs → T (is_row (next_of n rs) r.number r.entries) → Rising n (rs ++ r ∷ [])
unfolding Rising next_of
rising_push n [] r h k = (k, tt)
rising_push n (x ∷ rs) r h k = (h.0, rising_push (x.number + 1) rs r h.1 k)

abbrev with : Slip → ℕ → List ℤ → Slip
with s number es = record { tree = s.tree; rows = s.rows ++ record { number = number; entries = es } ∷ [] }

slip_push : (s : Slip) (number : ℕ) (es : List ℤ) → slip_bits (with s number es) ≡ slip_bits s ++ row_bits number es
unfolding slip_bits
slip_push s number es =
    ap (λ (bs : List ℕ). low 32 s.tree ++ bs) (rows_push s.rows (record { number = number; entries = es }))
    ∙ sym (append_assoc (low 32 s.tree) (rows_bits s.rows) (row_bits number es))

module _ (s : Slip) (area : List ℕ) (at next number : ℕ) (es : List ℤ) (room : at ≤ 32 + 69 * next) (h : Holds s area at next) where
  pub row_holds : T (is_row next number es) → Holds (with s number es) (put_bits area at (row_bits number es)) (at + 69) (number + 1)
  row_holds ok =
      let is = row_is next number es ok in
      let long = length_row number es is.count in
      let most = is.most in
      let least = is.least in
      record {
        proper = record {
          word = h.proper.word;
          rising = rising_push 0 s.rows (record { number = number; entries = es }) h.proper.rising (subst (λ (n : ℕ). T (is_row n number es)) h.above ok);
        };
        roomy = subst (λ (n : ℕ). 280 ≤ n) (sym (length-put_bits area at (row_bits number es))) h.roomy;
        packed =
            subst (λ (bs : List ℕ). Packed bs (put_bits area at (row_bits number es))) (sym (slip_push s number es))
            (packed_bits (row_bits number es) (slip_bits s) area at (small_row number es) (sym h.place) (omega arith) h.roomy h.packed);
        place = sym (ap length (slip_push s number es) ∙ length-append (slip_bits s) (row_bits number es) ∙ omega (arith, h.place));
        above = sym (next_push 0 s.rows (record { number = number; entries = es }));
      }

  same_holds : (area' : List ℕ) (at' next' : ℕ) → area' ≡ area → at' ≡ at → next' ≡ next → Holds s area' at' next'
  same_holds area' at' next' a b c =
      subst (λ (xs : List ℕ). Holds s xs at' next') (sym a) (subst (λ (n : ℕ). Holds s area n next') (sym b) (subst (Holds s area at) (sym c) h))

  decided : (area' : List ℕ) (at' next' : ℕ) (a b : Bool) → is_row next number es ≡ a
      → area' ≡ kept (refuse 16 (not a) (refuse 17 b (granted (tt {0})))) area (put_bits area at (row_bits number es))
      → at' ≡ kept (refuse 16 (not a) (refuse 17 b (granted (tt {0})))) at (at + 69)
      → next' ≡ kept (refuse 16 (not a) (refuse 17 b (granted (tt {0})))) next (number + 1)
      → Holds (with_row (refuse 16 (not a) (refuse 17 b (granted (tt {0})))) s number es) area' at' next'
  decided area' at' next' false b e x y z = same_holds area' at' next' x y z
  decided area' at' next' true true e x y z = same_holds area' at' next' x y z
  decided area' at' next' true false e x y z =
      let k = row_holds (subst T (sym e) tt) in
      subst (λ (xs : List ℕ). Holds (with s number es) xs at' next') (sym x)
      (subst (λ (n : ℕ). Holds (with s number es) (put_bits area at (row_bits number es)) n next') (sym y)
      (subst (Holds (with s number es) (put_bits area at (row_bits number es)) (at + 69)) (sym z) k))

  pub given_holds : (v : Verdict) (area' : List ℕ) (at' next' : ℕ) → Given area at next number es v area' at' next'
      → Holds (with_row (row_answer (length area) next number es) s number es) area' at' next'
  given_holds v area' at' next' g = decided area' at' next' (is_row next number es) (ltb (length area) 280) refl g.areas g.places g.nexts

module _ (area : List ℕ) (at next number : ℕ) (es : List ℤ) (room : at ≤ 32 + 69 * next) where
  past_decided : (area' : List ℕ) (a b : Bool) → is_row next number es ≡ a
      → area' ≡ kept (refuse 16 (not a) (refuse 17 b (granted (tt {0})))) area (put_bits area at (row_bits number es)) → Past area area'
  past_decided area' false b e x k h = ap (λ (xs : List ℕ). get_or xs k 0) x
  past_decided area' true true e x k h = ap (λ (xs : List ℕ). get_or xs k 0) x
  past_decided area' true false e x k h =
      let is = row_is next number es (subst T (sym e) tt) in
      let most = is.most in
      let least = is.least in
      ap (λ (xs : List ℕ). get_or xs k 0) x ∙ past_bits (row_bits number es) area at (omega (arith, length_row number es is.count)) k h

  pub given_past : (v : Verdict) (area' : List ℕ) (at' next' : ℕ) → Given area at next number es v area' at' next' → Past area area'
  given_past v area' at' next' g = past_decided area' (is_row next number es) (ltb (length area) 280) refl g.areas

-- ---- sealing
pub sealed_back : (s : Slip) (area : List ℕ) (at next : ℕ) → at ≤ 2240 → Holds s area at next → ReadsBack s area ((at + 7) / 8)
sealed_back s area at next w h = record {
  packed = h.packed;
  count = ap (λ (n : ℕ). (n + 7) / 8) h.place;
  back =
      ap (λ (n : ℕ). Rattle.slips.specs.Slips.read_back (take ((n + 7) / 8) area)) h.place
      ∙ slip_back s area h.proper (subst (λ (n : ℕ). n ≤ 2240) h.place w) h.roomy h.packed;
}

pub sealed_left : (s : Slip) (area : List ℕ) {area' : List ℕ} (at next : ℕ) → at ≤ 2240 → area' ≡ area → Holds s area at next → ReadsBack s area' ((at + 7) / 8)
sealed_left s area at next w e h = subst (λ (xs : List ℕ). ReadsBack s xs ((at + 7) / 8)) (sym e) (sealed_back s area at next w h)
