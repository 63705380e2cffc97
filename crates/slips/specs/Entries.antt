-- Entries of a row: -1, 0 or +1 at each place, and their codes. Assumes nothing.
--
-- code_of       the code of an entry: 0 for 0, 1 for +1, 3 for -1
-- entry_of      the entry of a code
-- is_entry      -1, 0 or +1
-- are_entries   every one of a list is an entry
-- entries_bits  two bits an entry
-- is_in         a place is in a word
-- entry_at      the entry at a place of a row of two words: the members, and those against
-- entries_of    the 32 entries of such a row
use Rattle.std.specs.Prelude.{ℕ, ◌/◌, ◌%◌, ◌^◌, Bool, true, cond, ◌&&◌, List, [], ◌∷◌, ◌++◌, map, ℤ, pos, negsuc, ◌==◌, nat_lt}
use Rattle.std.specs.List.{range_with_len}
use Rattle.slips.specs.Bits.{high}

abbrev pub code_of : ℤ → ℕ
code_of (pos n) = cond (n == 1) 1 0
code_of (negsuc n) = 3

abbrev pub entry_of : ℕ → ℤ
entry_of c = cond (c == 3) (negsuc 0) (pos c)

abbrev pub is_entry : ℤ → Bool
is_entry (pos n) = nat_lt n 2
is_entry (negsuc n) = n == 0

unfoldable pub are_entries : List ℤ → Bool
are_entries [] = true
are_entries (e ∷ es) = is_entry e && are_entries es

unfoldable pub entries_bits : List ℤ → List ℕ
entries_bits [] = []
entries_bits (e ∷ es) = high 2 (code_of e) ++ entries_bits es

abbrev pub is_in : ℕ → ℕ → Bool
is_in k w = w / 2 ^ k % 2 == 1

abbrev pub entry_at : ℕ → ℕ → ℕ → ℤ
entry_at members against k = cond (is_in k members) (cond (is_in k against) (negsuc 0) (pos 1)) (pos 0)

unfoldable pub entries_of : ℕ → ℕ → List ℤ
entries_of members against = map (entry_at members against) (range_with_len 0 32)
