-- The texts of numbers. Assumes nothing.
--
-- number_digits   the most digits of a branch or node number
-- value_digits    the most digits of a value's or a start's whole numbers
-- is_digit        a byte from 48 to 57
-- all_digits      nothing but digits
-- read_digits     the number that digits write after n
-- plain           the number that a text of digits writes, if it has at least one and at most so many
-- over            one number over another, where there are both
-- slash           the byte between them
-- ratio           digits, or digits over digits
-- negated         a numeral after a minus
-- signed          a ratio, or a minus and a ratio
-- whole           the digits of a branch or node number, over 1
-- value_text      a value's text: signed on a source, else a ratio
-- figured         what the text of a field may be, by what the field is for
-- word_of         the field that a token borrows
-- is_whole        a token of a number or a node
use Rattle.std.specs.Prelude.{ℕ, suc, ◌+◌, ◌-◌, ◌*◌, Bool, true, false, cond, ◌&&◌, List, [], ◌∷◌, length, take, drop, Some, None, Option, ◌==◌, nat_le, nat_lt}
use Rattle.sheet.specs.declared.kind.Kind.{Kind}
use Rattle.sheet.specs.Kinds.{is_source}
use Rattle.cards.specs.declared.numeral.Numeral.{Numeral}
use Rattle.cards.specs.declared.token.Token.{Token}
use Rattle.cards.specs.declared.token.Token.TheVariants.{Number, Node, Value, Start}
use Rattle.cards.specs.Fields.{Word, seen}
use Rattle.cards.specs.Parts.{reach}

abbrev pub number_digits : ℕ
number_digits = 6

abbrev pub value_digits : ℕ
value_digits = 6

abbrev pub is_digit : ℕ → Bool
is_digit b = nat_le 48 b && nat_le b 57

abbrev pub all_digits : List ℕ → Bool
all_digits [] = true
all_digits (b ∷ bs) = is_digit b && all_digits bs

abbrev pub read_digits : ℕ → List ℕ → ℕ
read_digits n [] = n
read_digits n (b ∷ bs) = read_digits (n * 10 + (b - 48)) bs

abbrev pub plain : ℕ → List ℕ → Option ℕ
plain most text = cond (nat_lt 0 (length text) && (nat_le (length text) most && all_digits text)) (Some (read_digits 0 text)) None

abbrev pub over : Option ℕ → Option ℕ → Option Numeral
over (Some n) (Some d) = Some (record { minus = false; top = n; under = d })
over (Some n) None = None
over None d = None

abbrev pub slash : ℕ
slash = 47

abbrev pub ratio : List ℕ → Option Numeral
ratio text =
    cond (nat_lt (reach slash text) (length text))
    (over (plain value_digits (take (reach slash text) text)) (plain value_digits (drop (suc (reach slash text)) text)))
    (over (plain value_digits text) (Some 1))

abbrev pub negated : Option Numeral → Option Numeral
negated None = None
negated (Some n) = Some (record { minus = true; top = n.top; under = n.under })

abbrev pub signed : List ℕ → Option Numeral
signed [] = None
signed (b ∷ bs) = cond (b == 45) (negated (ratio bs)) (ratio (b ∷ bs))

abbrev pub whole : List ℕ → Option Numeral
whole text = over (plain number_digits text) (Some 1)

abbrev pub value_text : Kind → List ℕ → Option Numeral
value_text k text = cond (is_source k) (signed text) (ratio text)

abbrev pub figured : Kind → Token → Option Numeral
figured k (Number f) = whole f.text.now
figured k (Node f) = whole f.text.now
figured k (Value f) = value_text k f.text.now
figured k (Start f) = signed f.text.now

abbrev pub word_of : Token → Word
word_of (Number f) = seen f
word_of (Node f) = seen f
word_of (Value f) = seen f
word_of (Start f) = seen f

abbrev pub is_whole : Token → Bool
is_whole (Number f) = true
is_whole (Node f) = true
is_whole (Value f) = false
is_whole (Start f) = false
