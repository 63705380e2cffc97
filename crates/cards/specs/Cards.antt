-- What one line of cards says in an arithmetic. Assumes nothing.
--
-- Checked X    what a line, or a part of it, comes to: an X, or a refusal with the byte that it names
-- checked_by   what a result of the program comes to, with a function of what is in it
-- then         what follows where all is right so far
-- meant_card   a line's placement, where it has one, with its values taken by what they mean
-- wanted       wrong where nothing is there
-- barred       wrong where the test holds
-- byte_of      a field's first byte, counted from 1
-- is_empty     no byte at all
-- counted      a branch or node number
-- whole_in     a whole number in an arithmetic
-- amount       what a numeral is in an arithmetic: a quotient, negated after a minus unless its top is 0
-- measured     the same, unless its denominator may not be divided by
-- value_of     the value that a field holds
-- start_of     a start: zero where none is written
-- over_of      the field that would be one too many
-- card_of      a card of that kind: number, tail, head, value, start, and no field left over
-- lettered     a line whose first field is a letter and a number
-- opened       a line by the text of its first field
-- line_of      a line: nothing where it is skipped, else its card
use Rattle.std.specs.Prelude.{ℕ, suc, Bool, true, false, cond, not, ◌&&◌, List, [], ◌∷◌, Some, None, Ok, Err, Option, Result, ◌==◌}
use Rattle.arithmetic.specs.Ops.{Ops, capped, may_divide}
use Rattle.sheet.specs.declared.kind.Kind.{Kind}
use Rattle.sheet.specs.declared.placement.Placement.{Placement}
use Rattle.sheet.specs.Kinds.{mark, kind_lettered, has_start}
use Rattle.sheet.specs.Meanings.{meant_placement}
use Rattle.sheet.specs.Refusals.{Told, means}
use Rattle.cards.specs.declared.fault.Wrong.{Wrong}
use Rattle.cards.specs.declared.numeral.Numeral.{Numeral}
use Rattle.cards.specs.Fields.{Word, Cutting, cutting}
use Rattle.cards.specs.Numerals.{plain, number_digits, value_text, signed}

pub data Checked (X : Type 0) : Type 0 where
  right : X → Checked X
  wrong : Told → ℕ → Checked X

abbrev pub checked_by : {X Y : Type 0} → (X → Y) → Result X Wrong → Checked Y
checked_by f (Ok x) = right (f x)
checked_by f (Err w) = wrong (means w.refusal) w.byte

abbrev pub meant_card : {V M : Type 0} → (V → M) → Option (Placement V) → Option (Placement M)
meant_card mean None = None
meant_card mean (Some p) = Some (meant_placement mean p)

abbrev pub then : {X Y : Type 0} → Checked X → (X → Checked Y) → Checked Y
then (right x) f = f x
then (wrong t b) f = wrong t b

abbrev pub wanted : {X : Type 0} → ℕ → ℕ → Option X → Checked X
wanted n byte None = wrong (record { number = n; words = [] }) byte
wanted n byte (Some x) = right x

abbrev pub barred : {X : Type 0} → ℕ → ℕ → Bool → Checked X → Checked X
barred n byte true rest = wrong (record { number = n; words = [] }) byte
barred n byte false rest = rest

abbrev pub byte_of : Word → ℕ
byte_of w = suc w.place

abbrev pub is_empty : List ℕ → Bool
is_empty [] = true
is_empty (b ∷ bs) = false

abbrev pub counted : Word → Checked ℕ
counted w = wanted 22 (byte_of w) (plain number_digits w.text)

module _ {M : Type 0} (o : Ops M) where
  abbrev pub whole_in : ℕ → M
  whole_in n = o.whole (capped n)

  abbrev pub amount : Numeral → M
  amount n =
      cond (n.minus && not (n.top == 0)) (o.neg (o.div (whole_in n.top) (whole_in n.under))) (o.div (whole_in n.top) (whole_in n.under))

  abbrev pub measured : ℕ → Numeral → Checked M
  measured byte n = barred 23 byte (not (may_divide o (whole_in n.under))) (right (amount n))

  abbrev pub value_of : Kind → Word → Checked M
  value_of k w = then (wanted 22 (byte_of w) (value_text k w.text)) (measured (byte_of w))

abbrev pub over_of : Kind → Cutting → Word
over_of k c = cond (has_start k) c.sixth c.fifth

module _ {M : Type 0} (o : Ops M) where
  abbrev pub start_of : Kind → Word → Checked M
  start_of k w =
      cond (has_start k && not (is_empty w.text)) (then (wanted 22 (byte_of w) (signed w.text)) (measured o (byte_of w))) (right o.nought)

  abbrev pub card_of : Kind → Word → Cutting → Checked (Placement M)
  card_of k number c =
      then (counted number) (λ n.
      then (counted c.tail) (λ t.
      then (counted c.head) (λ h.
      then (value_of o k c.value) (λ v.
      then (start_of k c.fifth) (λ s.
      barred 24 (byte_of (over_of k c)) (not (is_empty (over_of k c).text))
      (right (record { number = n; kind = (mark k).number; tail = t; head = h; value = v; start = s })))))))

  abbrev pub lettered : Option Kind → ℕ → List ℕ → Cutting → Checked (Option (Placement M))
  lettered None byte number c = wrong (record { number = 21; words = [] }) byte
  lettered (Some k) byte number c = then (card_of k (record { place = byte; text = number }) c) (λ p. right (Some p))

  abbrev pub opened : List ℕ → Cutting → Checked (Option (Placement M))
  opened [] c = right None
  opened (b ∷ bs) c = cond (b == 42) (right None) (lettered (kind_lettered b) (byte_of c.first) bs c)

  abbrev pub line_of : List ℕ → Checked (Option (Placement M))
  line_of line = opened (cutting line).first.text (cutting line)
