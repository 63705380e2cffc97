-- What texts look like, without reading them: pieces, fields, numbers. Assumes nothing.
--
-- Lacks s bs          no byte of bs is s
-- EachLacks s ws      no piece holds s
-- joined s ws         the pieces ws with a byte s between each two
-- Parted s bs ws      bs is the pieces ws joined by s, and no piece holds s
-- AllSpaces           every byte is 32
-- Opens               nothing, or a space first
-- Begins              spaces, then a field, then the others in what is left
-- Laid at bs fs       bs, which begins at that place, is the fields fs with spaces before, between and after them
-- Digits              every byte is a digit
-- Writes most bs n    bs is at least one digit and at most so many, which write n
-- Over bs n d         bs writes n, a slash and d
-- Ratio bs n d        bs writes n, and d is 1; or it writes one over the other
-- Minus bs m          bs is a minus, byte 45, and a ratio
-- Shows sign bs m     bs is the numeral m: a ratio, or a minus and a ratio where a sign may stand
use Rattle.std.specs.Prelude.{◌≡◌, ℕ, ◌+◌, ◌<◌, ◌≤◌, Bool, true, false, ◌⊎◌, List, [], ◌∷◌, ◌++◌, length, ◌≢◌}
use Rattle.cards.specs.declared.numeral.Numeral.{Numeral}
use Rattle.cards.specs.Fields.{Word, word_end}
use Rattle.cards.specs.Numerals.{read_digits, slash, value_digits}

abbrev pub Lacks : ℕ → List ℕ → Type 0
Lacks s [] = Unit {0}
Lacks s (b ∷ bs) = (b ≢ s) × Lacks s bs

abbrev pub EachLacks : ℕ → List (List ℕ) → Type 0
EachLacks s [] = Unit {0}
EachLacks s (w ∷ ws) = Lacks s w × EachLacks s ws

abbrev pub joined : ℕ → List (List ℕ) → List ℕ
joined s [] = []
joined s (w ∷ []) = w
joined s (w ∷ v ∷ ws) = w ++ (s ∷ joined s (v ∷ ws))

pub record Parted (s : ℕ) (bs : List ℕ) (ws : List (List ℕ)) : Type 0 where
  pub some : ws ≡ [] → ⊥
  pub text : joined s ws ≡ bs
  pub free : EachLacks s ws

abbrev pub AllSpaces : List ℕ → Type 0
AllSpaces [] = Unit {0}
AllSpaces (b ∷ bs) = (b ≡ 32) × AllSpaces bs

abbrev pub Opens : List ℕ → Type 0
Opens [] = Unit {0}
Opens (b ∷ bs) = b ≡ 32

pub record Begins (at : ℕ) (bs : List ℕ) (f : Word) (Others : List ℕ → Type 0) : Type 0 where
  pub gap : List ℕ
  pub rest : List ℕ
  pub text : bs ≡ gap ++ (f.text ++ rest)
  pub spaces : AllSpaces gap
  pub place : f.place ≡ at + length gap
  pub some : f.text ≡ [] → ⊥
  pub free : Lacks 32 f.text
  pub ends : Opens rest
  pub others : Others rest

abbrev pub Laid : ℕ → List ℕ → List Word → Type 0
Laid at bs [] = AllSpaces bs
Laid at bs (f ∷ fs) = Begins at bs f (λ rest. Laid (word_end f) rest fs)

abbrev pub Digits : List ℕ → Type 0
Digits [] = Unit {0}
Digits (b ∷ bs) = (48 ≤ b) × (b ≤ 57) × Digits bs

pub record Writes (most : ℕ) (bs : List ℕ) (n : ℕ) : Type 0 where
  pub some : 0 < length bs
  pub few : length bs ≤ most
  pub digits : Digits bs
  pub is : read_digits 0 bs ≡ n

pub record Over (bs : List ℕ) (n d : ℕ) : Type 0 where
  pub top : List ℕ
  pub under : List ℕ
  pub text : bs ≡ top ++ (slash ∷ under)
  pub above : Writes value_digits top n
  pub below : Writes value_digits under d

abbrev pub Ratio : List ℕ → ℕ → ℕ → Type 0
Ratio bs n d = (Writes value_digits bs n × (d ≡ 1)) ⊎ Over bs n d

pub record Minus (bs : List ℕ) (m : Numeral) : Type 0 where
  pub rest : List ℕ
  pub text : bs ≡ 45 ∷ rest
  pub minus : m.minus ≡ true
  pub ratio : Ratio rest m.top m.under

abbrev pub Shows : Bool → List ℕ → Numeral → Type 0
Shows sign bs m = ((m.minus ≡ false) × Ratio bs m.top m.under) ⊎ ((sign ≡ true) × Minus bs m)
