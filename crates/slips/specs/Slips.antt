-- Slips: a tree and rows, the bits that they are, and how they are read back. Assumes nothing.
--
-- Slip          the tree's word, and the rows in order
-- is_row        the number is one that may come next and at most 31, and there are 32 entries
-- row_bits      a row: five bits of its number, then its entries
-- rows_bits     rows in order
-- slip_bits     a slip: its 32 tree bits, place 0 first, then its rows
-- next_of       the least number that may come after those rows
-- Rising        each row is a row, above the one before; the first has at least that number
-- Proper        the tree is a word of 32 bits, and the rows rise
-- unpacked      the bits of bytes
-- from_low      the number of bits, least significant first
-- read_entries  n entries from the front of bits
-- read_rows     n rows from the front of bits
-- read_back     the slip that those bytes are: their count says how many rows there are
use Rattle.std.specs.Prelude.{ℕ, zero, suc, ◌+◌, ◌-◌, ◌*◌, ◌/◌, ◌^◌, ◌<◌, Bool, ◌&&◌, T, List, [], ◌∷◌, ◌++◌, length, take, drop, ℤ, ◌==◌, nat_le, nat_lt}
use Rattle.slips.specs.declared.row.SlipRow.{SlipRow}
use Rattle.slips.specs.Bits.{high, low, word_at}
use Rattle.slips.specs.Entries.{are_entries, entries_bits, entry_of}

pub record Slip : Type 0 where
  pub tree : ℕ
  pub rows : List SlipRow

abbrev pub is_row : ℕ → ℕ → List ℤ → Bool
is_row next number es = nat_le next number && nat_lt number 32 && length es == 32 && are_entries es

unfoldable pub row_bits : ℕ → List ℤ → List ℕ
row_bits number es = high 5 number ++ entries_bits es

unfoldable pub rows_bits : List SlipRow → List ℕ
rows_bits [] = []
rows_bits (r ∷ rs) = row_bits r.number r.entries ++ rows_bits rs

unfoldable pub slip_bits : Slip → List ℕ
slip_bits s = low 32 s.tree ++ rows_bits s.rows

unfoldable pub next_of : ℕ → List SlipRow → ℕ
next_of n [] = n
next_of n (r ∷ rs) = next_of (r.number + 1) rs

unfoldable pub Rising : ℕ → List SlipRow → Type 0
Rising n [] = Unit {0}
Rising n (r ∷ rs) = T (is_row n r.number r.entries) × Rising (r.number + 1) rs

pub record Proper (s : Slip) : Type 0 where
  pub word : s.tree < 2 ^ 32
  pub rising : Rising 0 s.rows

unfoldable pub unpacked : List ℕ → List ℕ
unpacked [] = []
unpacked (b ∷ bs) = high 8 b ++ unpacked bs

unfoldable pub from_low : List ℕ → ℕ
from_low [] = 0
from_low (b ∷ bs) = b + 2 * from_low bs

unfoldable pub read_entries : ℕ → List ℕ → List ℤ
read_entries zero bs = []
read_entries (suc n) bs = entry_of (word_at bs 0 2) ∷ read_entries n (drop 2 bs)

unfoldable pub read_rows : ℕ → List ℕ → List SlipRow
read_rows zero bs = []
read_rows (suc n) bs = record { number = word_at bs 0 5; entries = read_entries 32 (drop 5 bs) } ∷ read_rows n (drop 69 bs)

unfoldable pub read_back : List ℕ → Slip
read_back bytes = record { tree = from_low (take 32 (unpacked bytes)); rows = read_rows ((8 * length bytes - 32) / 69) (drop 32 (unpacked bytes)) }
