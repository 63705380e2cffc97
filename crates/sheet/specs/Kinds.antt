-- The five kinds of branches: one definition of their numbers and letters. Assumes nothing.
--
-- mark            a kind's number and its letter, as the byte
-- kinds           all kinds
-- first_kind      the first kind of a list that passes a test
-- kind_numbered   the kind of that number, if there is one
-- kind_lettered   the kind of that letter, if there is one
-- is_source       a voltage or current source
-- has_start       an inductor or a capacitor: the kinds that may have a start
use Rattle.std.specs.Prelude.{ℕ, Bool, true, false, cond, List, [], ◌∷◌, Some, None, Option, nat_eq}
use Rattle.sheet.specs.declared.kind.Kind.{Kind}
use Rattle.sheet.specs.declared.kind.Kind.TheVariants.{Resistor, Inductor, Capacitor, VoltageSource, CurrentSource}

pub record Mark : Type 0 where
  pub number : ℕ
  pub letter : ℕ

abbrev pub mark : Kind → Mark
mark Resistor = record { number = 1; letter = 82 }
mark Inductor = record { number = 2; letter = 76 }
mark Capacitor = record { number = 3; letter = 67 }
mark VoltageSource = record { number = 4; letter = 86 }
mark CurrentSource = record { number = 5; letter = 73 }

abbrev pub kinds : List Kind
kinds = Resistor ∷ Inductor ∷ Capacitor ∷ VoltageSource ∷ CurrentSource ∷ []

abbrev pub first_kind : (Kind → Bool) → List Kind → Option Kind
first_kind test [] = None
first_kind test (k ∷ ks) = cond (test k) (Some k) (first_kind test ks)

abbrev pub kind_numbered : ℕ → Option Kind
kind_numbered n = first_kind (λ k. nat_eq (mark k).number n) kinds

abbrev pub kind_lettered : ℕ → Option Kind
kind_lettered b = first_kind (λ k. nat_eq (mark k).letter b) kinds

abbrev pub is_source : Kind → Bool
is_source Resistor = false
is_source Inductor = false
is_source Capacitor = false
is_source VoltageSource = true
is_source CurrentSource = true

abbrev pub has_start : Kind → Bool
has_start Resistor = false
has_start Inductor = true
has_start Capacitor = true
has_start VoltageSource = false
has_start CurrentSource = false
