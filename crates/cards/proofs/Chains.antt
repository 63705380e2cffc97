-- A card from what each of its checks found. Assumes nothing.
use Rattle.std.proofs.Common.{◌≡◌, ℕ, ◌+◌, ◌-◌, ◌<◌, Bool, true, false, not, eqb, List, [], ◌∷◌, length, get_or, take, drop, Some, None, Option, Ok, Err, Result, MatchResult, sym, refl, ap, ◌∙◌, add-one, arith}
use Rattle.std.specs.Option.{ok_or}
use Rattle.std.proofs.lemmas.List.{take_rest}
use Rattle.std.proofs.lemmas.Bool.{ne_eqb, cond-false}
use Rattle.arithmetic.specs.Ops.{Ops}
use Rattle.sheet.specs.declared.kind.Kind.{Kind}
use Rattle.sheet.specs.Kinds.{mark, kind_lettered}
use Rattle.sheet.specs.Refusals.{Told}
use Rattle.cards.specs.Cards.{Checked, right, wrong, then, barred, byte_of, is_empty, counted, value_of, start_of, over_of, card_of, lettered, opened}
use Rattle.cards.specs.Fields.{Word, Cutting}

-- what a result was before its error was mapped
pub was_ok : {T E : Type 0} (D : Type 0) (a : Result T E) (y : T) → MatchResult a (λ x. ◌≡◌ {A = Result T D} (Ok y) (Ok x)) (λ _. ⊥) → a ≡ Ok y
was_ok D (Ok x) y h = cc
was_ok D (Err e) y h = absurd h

-- and what an option was that is not refused
pub was_some : {T E : Type 0} (o : Option T) (e : E) (x : T) → ok_or o e ≡ Ok x → Some x ≡ o
was_some None e x h = let z : ◌≡◌ {A = ℕ} 0 1 = cc in absurd (omega arith)
was_some (Some y) e x h = cc

-- a wrong answer at another type
abbrev or_else : {X Y : Type 0} → Checked X → Checked Y → Checked Y
or_else (right x) rest = rest
or_else (wrong t b) rest = wrong t b

or_else_barred : {X Y : Type 0} (n byte : ℕ) (t : Bool) (x : X) (rest : Checked Y) → or_else (barred n byte t (right x)) rest ≡ barred n byte t rest
or_else_barred n byte true x rest = refl
or_else_barred n byte false x rest = refl

pub barred_stops : {X Y : Type 0} (n byte : ℕ) (t : Bool) (x : X) (rest : Checked Y) (told : Told) (b : ℕ) → wrong told b ≡ barred n byte t (right x) → wrong told b ≡ barred n byte t rest
barred_stops n byte t x rest told b e = ap (λ c. or_else c rest) e ∙ or_else_barred n byte t x rest

module _ {M : Type 0} (o : Ops M) (k : Kind) (c : Cutting) where
  pub to_over : (number : Word) (n t h : ℕ) (v s : M) → right n ≡ counted number → right t ≡ counted c.tail → right h ≡ counted c.head
      → right v ≡ value_of o k c.value → right s ≡ start_of o k c.fifth
      → barred 24 (byte_of (over_of k c)) (not (is_empty (over_of k c).text)) (right (record { number = n; kind = (mark k).number; tail = t; head = h; value = v; start = s }))
      ≡ card_of o k number c
  to_over number n t h v s e1 e2 e3 e4 e5 = λ i.
      then (e1 i) (λ n.
      then (e2 i) (λ t.
      then (e3 i) (λ h.
      then (e4 i) (λ v.
      then (e5 i) (λ s.
      barred 24 (byte_of (over_of k c)) (not (is_empty (over_of k c).text))
      (right (record { number = n; kind = (mark k).number; tail = t; head = h; value = v; start = s })))))))

  pub card_line : (text : List ℕ) (place : ℕ) → 0 < length text → (get_or text 0 0 ≡ 42 → ⊥) → Some k ≡ kind_lettered (get_or text 0 0) → place ≡ c.first.place + 1
      → then (card_of o k (record { place = place; text = take (length text - 1) (drop 1 text) }) c) (λ p. right (Some p)) ≡ opened o text c
  card_line [] place some star letter is = absurd (omega arith)
  card_line (b ∷ bs) place some star letter is =
      let at : place ≡ byte_of c.first = is ∙ add-one c.first.place in
      (λ i. then (card_of o k (record { place = at i; text = take_rest (b ∷ bs) 1 i }) c) (λ p. right (Some p)))
      ∙ ap (λ x. lettered o x (byte_of c.first) bs c) letter
      ∙ sym (cond-false (eqb b 42) _ _ (ne_eqb b 42 star))
