-- What the station's interface answers and leaves. Assumes nothing.
--
-- no_memory    the mark of want of memory, the largest number of 64 bits
-- in_front     a buffer with a text at its front, where it is long enough for it
-- mark         the number of a refusal; 0 of a granted answer
-- mark_of      the number of the refusal that ends the key of the cards before its steps; 0 if there is none
-- Keyed        the key of the cards: its length, and the buffer with it; or want of memory and the buffer as it was
use Rattle.std.specs.Prelude.{◌≡◌, ℕ, cond, ◌⊎◌, List, ◌++◌, length, drop, nat_le}
use Rattle.sheet.specs.Refusals.{Answer, granted, refused}
use Rattle.printed_key.specs.Key.{key_text, circuit_tree}

abbrev pub no_memory : ℕ
no_memory = 18446744073709551615

unfoldable pub in_front : List ℕ → List ℕ → List ℕ
in_front text buffer = cond (nat_le (length text) (length buffer)) (text ++ drop (length text) buffer) buffer

abbrev pub Keyed : List ℕ → List ℕ → ℕ → List ℕ → Type 0
Keyed cards buffer r buffer' =
    ((r ≡ length (key_text cards)) × (buffer' ≡ in_front (key_text cards) buffer)) ⊎ ((r ≡ no_memory) × (buffer' ≡ buffer))

abbrev pub mark : {X : Type 0} → Answer X → ℕ
mark (granted x) = 0
mark (refused t) = t.number

abbrev pub mark_of : List ℕ → ℕ
mark_of cards = mark (circuit_tree cards)
