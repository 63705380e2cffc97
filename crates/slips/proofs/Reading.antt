-- Reading a slip back from its bytes. Assumes nothing.
use Rattle.std.proofs.Common.{◌≡◌, ℕ, zero, suc, ◌+◌, ◌-◌, ◌*◌, ◌/◌, ◌%◌, ◌^◌, ◌<◌, ◌≤◌, Bool, true, false, ◌&&◌, T, eqb, ltb, leb, List, [], ◌∷◌, ◌++◌, length, get_or, take, drop, ℤ, pos, negsuc, sym, refl, ap, ◌∙◌, append_assoc, add-zero, mod-eq_of_lt, mul_assoc, add_comm, suc-add, pow-suc, zero-add, add-one, one-add, arith, eqb→eq, ltb→lt, leb→le, get_or-take, take_at, drop_at, pow_pos, pow-add}
use native.Mathlib.Nat.{add-mul-div_right}
use Rattle.std.proofs.lemmas.Nat.{div-mul-add}
use Rattle.std.proofs.lemmas.List.{length-append, length-take-le}
use Rattle.slips.specs.Bits.{high, low, word_at, byte_at}
use Rattle.slips.specs.declared.row.SlipRow.{SlipRow}
use Rattle.slips.specs.Entries.{code_of, entry_of, is_entry, are_entries, entries_bits}
use Rattle.slips.specs.Slips.{Slip, is_row, row_bits, rows_bits, slip_bits, Rising, Proper, unpacked, from_low, read_entries, read_rows, read_back}
use Rattle.slips.specs.Writing.{Packed}
use Rattle.slips.proofs.Packing.{Small, small_append, small_high, small_low, word_at-first}
use Rattle.slips.proofs.Putting.{length_high, length-low}

fst : (a b : Bool) → T (a && b) → T a
fst true b h = tt
fst false b h = h

snd : (a b : Bool) → T (a && b) → T b
snd true b h = h
snd false b h = absurd h

-- ---- a row's test, taken apart
pub record IsRow (next number : ℕ) (es : List ℤ) : Type 0 where
  pub least : next ≤ number
  pub most : number < 32
  pub count : length es ≡ 32
  pub signs : T (are_entries es)

pub row_is : (next number : ℕ) (es : List ℤ) → T (is_row next number es) → IsRow next number es
row_is next number es h =
    let a = fst (leb next number && ltb number 32 && eqb (length es) 32) (are_entries es) h in
    let b = fst (leb next number && ltb number 32) (eqb (length es) 32) a in
    record {
      least = leb→le next number (fst (leb next number) (ltb number 32) b);
      most = ltb→lt number 32 (snd (leb next number) (ltb number 32) b);
      count = eqb→eq (length es) 32 (snd (leb next number && ltb number 32) (eqb (length es) 32) a);
      signs = snd (leb next number && ltb number 32 && eqb (length es) 32) (are_entries es) h;
    }

-- ---- lengths, and bits are 0 or 1
pub length-entries : (es : List ℤ) → length (entries_bits es) ≡ 2 * length es
unfolding entries_bits
length-entries [] = refl
length-entries (e ∷ es) = length-append (high 2 (code_of e)) (entries_bits es) ∙ ap (λ (n : ℕ). n + length (entries_bits es)) (length_high 2 (code_of e)) ∙ ap (λ (n : ℕ). 2 + n) (length-entries es) ∙ omega arith

pub length_row : (number : ℕ) (es : List ℤ) → length es ≡ 32 → length (row_bits number es) ≡ 69
unfolding row_bits
length_row number es h = length-append (high 5 number) (entries_bits es) ∙ omega (arith, length_high 5 number, length-entries es)

pub length_rows : (n : ℕ) (rs : List SlipRow) → Rising n rs → length (rows_bits rs) ≡ 69 * length rs
unfolding rows_bits Rising
length_rows n [] h = refl
length_rows n (r ∷ rs) h =
    length-append (row_bits r.number r.entries) (rows_bits rs)
    ∙ omega (arith, length_row r.number r.entries (row_is n r.number r.entries h.0).count, length_rows (r.number + 1) rs h.1)

pub length_slip : (s : Slip) → Proper s → length (slip_bits s) ≡ 32 + 69 * length s.rows
unfolding slip_bits
length_slip s p = length-append (low 32 s.tree) (rows_bits s.rows) ∙ omega (arith, length-low 32 s.tree, length_rows 0 s.rows p.rising)

small_entries : (es : List ℤ) → Small (entries_bits es)
unfolding entries_bits
small_entries [] = tt
small_entries (e ∷ es) = small_append (high 2 (code_of e)) (entries_bits es) (small_high 2 (code_of e)) (small_entries es)

pub small_row : (number : ℕ) (es : List ℤ) → Small (row_bits number es)
unfolding row_bits
small_row number es = small_append (high 5 number) (entries_bits es) (small_high 5 number) (small_entries es)

small_rows : (rs : List SlipRow) → Small (rows_bits rs)
unfolding rows_bits
small_rows [] = tt
small_rows (r ∷ rs) = small_append (row_bits r.number r.entries) (rows_bits rs) (small_row r.number r.entries) (small_rows rs)

small_slip : (s : Slip) → Small (slip_bits s)
unfolding slip_bits
small_slip s = small_append (low 32 s.tree) (rows_bits s.rows) (small_low 32 s.tree) (small_rows s.rows)

-- ---- the bits of bytes: the packed bits, filled up with zeros
abbrev window : List ℕ → ℕ → ℕ → List ℕ
window bs at zero = []
window bs at (suc n) = get_or bs at 0 ∷ window bs (at + 1) n

window-append : (bs : List ℕ) (at n m : ℕ) → window bs at (n + m) ≡ window bs at n ++ window bs (at + n) m
window-append bs at zero m = ap (window bs at) (zero-add m) ∙ ap (λ (k : ℕ). window bs k m) (sym (add-zero at))
window-append bs at (suc n) m =
    ap (window bs at) (suc-add n m)
    ∙ ap (λ (xs : List ℕ). get_or bs at 0 ∷ xs) (window-append bs (at + 1) n m ∙ ap (λ (k : ℕ). window bs (at + 1) n ++ window bs k m) (omega arith))

window_shift : (b : ℕ) (bs : List ℕ) (at n : ℕ) → window (b ∷ bs) (at + 1) n ≡ window bs at n
window_shift b bs at zero = refl
window_shift b bs at (suc n) =
    ap (λ (k : ℕ). get_or (b ∷ bs) k 0 ∷ window (b ∷ bs) (at + 1 + 1) n) (add-one at)
    ∙ ap (λ (xs : List ℕ). get_or bs at 0 ∷ xs) (window_shift b bs (at + 1) n)

window-whole : (bs : List ℕ) → window bs 0 (length bs) ≡ bs
window-whole [] = refl
window-whole (b ∷ bs) = ap (λ (xs : List ℕ). b ∷ xs) (window_shift b bs 0 (length bs) ∙ window-whole bs)

small_at : (bs : List ℕ) → Small bs → (k : ℕ) → get_or bs k 0 < 2
small_at [] s k = omega arith
small_at (b ∷ bs) s zero = s.0
small_at (b ∷ bs) s (suc k) = small_at bs s.1 k

word_below : (bs : List ℕ) → Small bs → (at n : ℕ) → word_at bs at n < 2 ^ n
unfolding word_at
word_below bs s at zero = omega arith
word_below bs s at (suc n) = omega (arith, word_below bs s at n, small_at bs s (at + n), pow-suc 2 n)

-- a bit does not see what stands far above it
bit_low : (g d n v : ℕ) → (g * 2 ^ (suc d + n) + v) / 2 ^ n % 2 ≡ v / 2 ^ n % 2
bit_low g d n v =
    let e : g * 2 ^ (suc d + n) ≡ g * 2 ^ d * 2 * 2 ^ n = ap (λ (k : ℕ). g * k) (pow-add 2 (suc d) n ∙ ap (λ (k : ℕ). k * 2 ^ n) (pow-suc 2 d)) ∙ sym (mul_assoc g (2 ^ d * 2) (2 ^ n)) ∙ ap (λ (k : ℕ). k * 2 ^ n) (sym (mul_assoc g (2 ^ d) 2)) in
    ap (λ (k : ℕ). (k + v) / 2 ^ n % 2) e
    ∙ ap (λ (k : ℕ). k / 2 ^ n % 2) (add_comm (g * 2 ^ d * 2 * 2 ^ n) v)
    ∙ ap (λ (k : ℕ). k % 2) (add-mul-div_right v (g * 2 ^ d * 2) (pow_pos n))
    ∙ omega arith

high-low : (g v m n : ℕ) → n ≤ m → high n (g * 2 ^ m + v) ≡ high n v
unfolding high
high-low g v m zero h = refl
high-low g v m (suc n) h =
    let e : m ≡ suc (m - suc n) + n = omega arith in
    ap (λ (k : ℕ). (g * 2 ^ k + v) / 2 ^ n % 2 ∷ high n (g * 2 ^ m + v)) e
    ∙ ap (λ (b : ℕ). b ∷ high n (g * 2 ^ m + v)) (bit_low g (m - suc n) n v)
    ∙ ap (λ (bs : List ℕ). v / 2 ^ n % 2 ∷ bs) (high-low g v m n (omega arith))

high_word : (bs : List ℕ) → Small bs → (at n : ℕ) → high n (word_at bs at n) ≡ window bs at n
unfolding high
high_word bs s at zero = refl
high_word bs s at (suc n) =
    let g = get_or bs at 0 in
    let v = word_at bs (at + 1) n in
    let w : word_at bs at (suc n) ≡ g * 2 ^ n + v = ap (word_at bs at) (sym (one-add n)) ∙ word_at-first bs at n in
    let b : (g * 2 ^ n + v) / 2 ^ n % 2 ≡ g = ap (λ (k : ℕ). k % 2) (div-mul-add g (2 ^ n) v (word_below bs s (at + 1) n)) ∙ mod-eq_of_lt (small_at bs s at) in
    ap (λ (k : ℕ). k / 2 ^ n % 2 ∷ high n k) w
    ∙ ap (λ (k : ℕ). k ∷ high n (g * 2 ^ n + v)) b
    ∙ ap (λ (xs : List ℕ). g ∷ xs) (high-low g v n n (omega arith) ∙ high_word bs s (at + 1) n)

unpacked_is : (bs : List ℕ) → Small bs → (bytes : List ℕ) (j : ℕ) → ((k : ℕ) → k < length bytes → get_or bytes k 0 ≡ byte_at bs (j + k)) → unpacked bytes ≡ window bs (8 * j) (8 * length bytes)
unfolding unpacked
unpacked_is bs s [] j h = refl
unpacked_is bs s (b ∷ bytes) j h =
    let n = 8 * length bytes in
    ap (λ (x : ℕ). high 8 x ++ unpacked bytes) (h 0 (omega arith) ∙ ap (byte_at bs) (add-zero j))
    ∙ ap (λ (xs : List ℕ). xs ++ unpacked bytes) (high_word bs s (8 * j) 8)
    ∙ ap (λ (xs : List ℕ). window bs (8 * j) 8 ++ xs) (unpacked_is bs s bytes (j + 1) (λ k l. h (suc k) (omega arith) ∙ ap (byte_at bs) (omega arith)))
    ∙ ap (λ (k : ℕ). window bs (8 * j) 8 ++ window bs k n) (omega arith)
    ∙ sym (window-append bs (8 * j) 8 n)
    ∙ ap (window bs (8 * j)) (omega arith)

-- ---- each part, read back
from_low_lem : (n w : ℕ) → w < 2 ^ n → from_low (low n w) ≡ w
unfolding from_low low
from_low_lem zero w h = omega arith
from_low_lem (suc n) w h = ap (λ (k : ℕ). w % 2 + 2 * k) (from_low_lem n (w / 2) (omega (arith, pow-suc 2 n))) ∙ omega arith

from_five : (n : ℕ) (rest : List ℕ) → n < 32 → word_at (high 5 n ++ rest) 0 5 ≡ n
unfolding high word_at
from_five n rest h =
    let a : n / 4 ≡ n / 2 / 2 = omega arith in
    let b : n / 8 ≡ n / 2 / 2 / 2 = omega arith in
    let c : n / 16 ≡ n / 2 / 2 / 2 / 2 = omega arith in
    rw (a, b, c) (omega arith)

from_code : (e : ℤ) (rest : List ℕ) → T (is_entry e) → entry_of (word_at (high 2 (code_of e) ++ rest) 0 2) ≡ e
unfolding high word_at
from_code (pos zero) rest h = refl
from_code (pos (suc zero)) rest h = refl
from_code (pos (suc (suc n))) rest h = absurd (omega (arith, ltb→lt (suc (suc n)) 2 h))
from_code (negsuc zero) rest h = refl
from_code (negsuc (suc n)) rest h = absurd (omega (arith, eqb→eq (suc n) 0 h))

entries-back : (es : List ℤ) (rest : List ℕ) → T (are_entries es) → read_entries (length es) (entries_bits es ++ rest) ≡ es
unfolding are_entries read_entries entries_bits
entries-back [] rest h = refl
entries-back (e ∷ es) rest h =
    let c = high 2 (code_of e) in
    ap (λ (bs : List ℕ). entry_of (word_at bs 0 2) ∷ read_entries (length es) (drop 2 bs)) (append_assoc c (entries_bits es) rest)
    ∙ ap (λ (z : ℤ). z ∷ read_entries (length es) (drop 2 (c ++ (entries_bits es ++ rest)))) (from_code e (entries_bits es ++ rest) (fst (is_entry e) (are_entries es) h))
    ∙ ap (λ (bs : List ℕ). e ∷ read_entries (length es) bs) (drop_at c (entries_bits es ++ rest) 2 (length_high 2 (code_of e)))
    ∙ ap (λ (zs : List ℤ). e ∷ zs) (entries-back es rest (snd (is_entry e) (are_entries es) h))

row_back : (n number : ℕ) (es : List ℤ) (rest : List ℕ) → IsRow n number es
    → (word_at (row_bits number es ++ rest) 0 5 ≡ number) × (read_entries 32 (drop 5 (row_bits number es ++ rest)) ≡ es)
unfolding row_bits
row_back n number es rest h =
    let a = append_assoc (high 5 number) (entries_bits es) rest in (
      ap (λ (bs : List ℕ). word_at bs 0 5) a ∙ from_five number (entries_bits es ++ rest) h.most,
      ap (λ (bs : List ℕ). read_entries 32 (drop 5 bs)) a
          ∙ ap (read_entries 32) (drop_at (high 5 number) (entries_bits es ++ rest) 5 (length_high 5 number))
          ∙ ap (λ (k : ℕ). read_entries k (entries_bits es ++ rest)) (sym h.count)
          ∙ entries-back es rest h.signs,
    )

rows_back : (n : ℕ) (rs : List SlipRow) (rest : List ℕ) → Rising n rs → read_rows (length rs) (rows_bits rs ++ rest) ≡ rs
unfolding Rising rows_bits read_rows
rows_back n [] rest h = refl
rows_back n (r ∷ rs) rest h =
    let is = row_is n r.number r.entries h.0 in
    let one = row_bits r.number r.entries in
    let b = row_back n r.number r.entries (rows_bits rs ++ rest) is in
    ap (λ (bs : List ℕ). record { number = word_at bs 0 5; entries = read_entries 32 (drop 5 bs) } ∷ read_rows (length rs) (drop 69 bs)) (append_assoc one (rows_bits rs) rest)
    ∙ (λ i. record { number = b.0 i; entries = b.1 i } ∷ read_rows (length rs) (drop 69 (one ++ (rows_bits rs ++ rest))))
    ∙ ap (λ (bs : List ℕ). r ∷ read_rows (length rs) bs) (drop_at one (rows_bits rs ++ rest) 69 (length_row r.number r.entries is.count))
    ∙ ap (λ (xs : List SlipRow). r ∷ xs) (rows_back (r.number + 1) rs rest h.1)

pub slip_back : (s : Slip) (area : List ℕ) → Proper s → length (slip_bits s) ≤ 2240 → 280 ≤ length area → Packed (slip_bits s) area
    → read_back (take ((length (slip_bits s) + 7) / 8) area) ≡ s
unfolding read_back slip_bits
slip_back s area p w r h =
    let bs = slip_bits s in
    let n = length s.rows in
    let used = (length bs + 7) / 8 in
    let bytes = take used area in
    let long : length bytes ≡ used = length-take-le used area (omega arith) in
    let count = length_slip s p in
    let zs = window bs (length bs) (8 * used - length bs) in
    let bits : unpacked bytes ≡ low 32 s.tree ++ (rows_bits s.rows ++ zs) =
    unpacked_is bs (small_slip s) bytes 0 (λ k l. get_or-take used area k 0 (omega arith) ∙ h k (omega arith) ∙ ap (byte_at bs) (sym (zero-add k)))
    ∙ ap (window bs 0) (omega arith)
    ∙ window-append bs 0 (length bs) (8 * used - length bs)
    ∙ ap (λ (k : ℕ). window bs 0 (length bs) ++ window bs k (8 * used - length bs)) (zero-add (length bs))
    ∙ ap (λ (xs : List ℕ). xs ++ zs) (window-whole bs)
    ∙ append_assoc (low 32 s.tree) (rows_bits s.rows) zs
    in
    let rows : (8 * length bytes - 32) / 69 ≡ n = omega arith in
    let rest = rows_bits s.rows ++ zs in
    (λ i. record { tree = from_low (take 32 (bits i)); rows = read_rows (rows i) (drop 32 (bits i)) })
    ∙ (λ i. record {
      tree = from_low (take_at (low 32 s.tree) rest 32 (length-low 32 s.tree) i);
      rows = read_rows n (drop_at (low 32 s.tree) rest 32 (length-low 32 s.tree) i);
    })
    ∙ (λ i. record { tree = from_low_lem 32 s.tree p.word i; rows = rows_back 0 s.rows zs p.rising i })
