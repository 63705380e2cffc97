-- Writing a slip into an area of bytes: what each call answers and leaves. Assumes nothing.
--
-- opened       the area after opening
-- blanked      the area of a slip that ends unsealed
-- on_area      what follows on an area of at least 280 bytes; 17 on a shorter one
-- row_answer   the answer to a row
-- seal_answer  the answer to sealing
-- kept         the new value where the answer is granted, else the old
-- rows_answer  the answer to rows in order: the first refusal, or granted
-- slip_answer  the answer to a whole slip
-- Given        what a row's call leaves of area, place and next number
-- Blank        the area's first 280 bytes are zero
-- Past         the bytes from 280 on are the same
-- Packed       the area's first 280 bytes are those bits, and zero bits after
-- Holds        the writer holds that slip and nothing else
-- with_row     the slip with one more row, if the answer is granted
-- ReadsBack    the bytes used are the slip's, and the slip can be read back from them
-- ToldApart    no two slips share both the bytes used and their count
use Rattle.std.specs.Prelude.{◌≡◌, ℕ, ◌+◌, ◌*◌, ◌/◌, ◌<◌, ◌≤◌, cond, not, List, [], ◌∷◌, ◌++◌, length, take, ℤ, nat_lt, slice_index}
use Rattle.sheet.specs.Refusals.{Answer, granted, refused, refuse, after, Verdict, verdict_of}
use Rattle.slips.specs.Bits.{put_bits, low, byte_at, zeroed}
use Rattle.slips.specs.declared.row.SlipRow.{SlipRow}
use Rattle.slips.specs.Slips.{Slip, Proper, is_row, row_bits, slip_bits, next_of, read_back}

unfoldable pub opened : ℕ → List ℕ → List ℕ
opened tree area = cond (nat_lt (length area) 280) area (put_bits (zeroed 280 area) 0 (low 32 tree))

unfoldable pub blanked : List ℕ → List ℕ
blanked area = cond (nat_lt (length area) 280) area (zeroed 280 area)

abbrev pub on_area : {X : Type 0} → ℕ → X → Answer X
on_area n x = refuse 17 (nat_lt n 280) (granted x)

abbrev pub row_answer : ℕ → ℕ → ℕ → List ℤ → Answer (Unit {0})
row_answer n next number es = refuse 16 (not (is_row next number es)) (on_area n tt)

abbrev pub seal_answer : ℕ → ℕ → Answer ℕ
seal_answer n at = on_area n ((at + 7) / 8)

unfoldable pub rows_answer : ℕ → ℕ → List SlipRow → Answer (Unit {0})
rows_answer n next [] = granted tt
rows_answer n next (r ∷ rs) = after (row_answer n next r.number r.entries) (λ _. rows_answer n (r.number + 1) rs)

abbrev pub slip_answer : ℕ → List SlipRow → Answer ℕ
slip_answer n rows = after (rows_answer n 0 rows) (λ _. seal_answer n (32 + 69 * length rows))

abbrev pub kept : {X Y : Type 0} → Answer Y → X → X → X
kept (granted y) old new = new
kept (refused t) old new = old

pub record Given (area : List ℕ) (at next number : ℕ) (es : List ℤ) (v : Verdict) (area' : List ℕ) (at' next' : ℕ) : Type 0 where
  pub answers : v ≡ verdict_of (row_answer (length area) next number es)
  pub areas : area' ≡ kept (row_answer (length area) next number es) area (put_bits area at (row_bits number es))
  pub places : at' ≡ kept (row_answer (length area) next number es) at (at + 69)
  pub nexts : next' ≡ kept (row_answer (length area) next number es) next (number + 1)

abbrev pub Blank : List ℕ → Type 0
Blank area = (k : ℕ) → k < 280 → slice_index area k ≡ 0

abbrev pub Past : List ℕ → List ℕ → Type 0
Past area area' = (k : ℕ) → 280 ≤ k → slice_index area' k ≡ slice_index area k

abbrev pub Packed : List ℕ → List ℕ → Type 0
Packed bits area = (k : ℕ) → k < 280 → slice_index area k ≡ byte_at bits k

pub record Holds (s : Slip) (area : List ℕ) (at next : ℕ) : Type 0 where
  pub proper : Proper s
  pub roomy : 280 ≤ length area
  pub packed : Packed (slip_bits s) area
  pub place : at ≡ length (slip_bits s)
  pub above : next ≡ next_of 0 s.rows

abbrev pub with_row : {Y : Type 0} → Answer Y → Slip → ℕ → List ℤ → Slip
with_row a s number es = kept a s (record { tree = s.tree; rows = s.rows ++ record { number = number; entries = es } ∷ [] })

pub record ReadsBack (s : Slip) (area : List ℕ) (used : ℕ) : Type 0 where
  pub packed : Packed (slip_bits s) area
  pub count : used ≡ (length (slip_bits s) + 7) / 8
  pub back : read_back (take used area) ≡ s

abbrev pub ToldApart : Type 0
ToldApart = (s t : Slip) (a b : List ℕ) (used : ℕ) → ReadsBack s a used → ReadsBack t b used → take used a ≡ take used b → s ≡ t
