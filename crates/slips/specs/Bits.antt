-- Bits in bytes: how a bit is put into an area, and which bits a number has. Assumes nothing.
--
-- put_bit     the area with a bit put in at a place; place 0 is the most significant bit of byte 0
-- put_bits    the area with bits put in from a place on
-- high        the last n bits of a word, most significant first
-- low         the last n bits of a word, least significant first
-- word_at     the number that n bits of a list make from a place on, most significant first; past the end the bits are 0
-- byte_at     byte k of packed bits
-- zeroed      the area with its first n bytes zero
use Rattle.std.specs.Prelude.{ℕ, zero, suc, ◌+◌, ◌-◌, ◌*◌, ◌/◌, ◌%◌, ◌^◌, List, [], ◌∷◌, bit_or, slice_index, slice_set}

abbrev pub put_bit : List ℕ → ℕ → ℕ → List ℕ
put_bit area at b = slice_set area (at / 8) (bit_or (slice_index area (at / 8)) (b * 2 ^ (7 - at % 8)))

unfoldable pub put_bits : List ℕ → ℕ → List ℕ → List ℕ
put_bits area at [] = area
put_bits area at (b ∷ bs) = put_bits (put_bit area at b) (at + 1) bs

unfoldable pub high : ℕ → ℕ → List ℕ
high zero w = []
high (suc n) w = w / 2 ^ n % 2 ∷ high n w

unfoldable pub low : ℕ → ℕ → List ℕ
low zero w = []
low (suc n) w = w % 2 ∷ low n (w / 2)

unfoldable pub word_at : List ℕ → ℕ → ℕ → ℕ
word_at bs at zero = 0
word_at bs at (suc n) = word_at bs at n * 2 + slice_index bs (at + n)

abbrev pub byte_at : List ℕ → ℕ → ℕ
byte_at bs k = word_at bs (8 * k) 8

unfoldable pub zeroed : ℕ → List ℕ → List ℕ
zeroed zero area = area
zeroed (suc n) [] = []
zeroed (suc n) (x ∷ area) = 0 ∷ zeroed n area
