-- Readings: a voltage in whole thousandths. A finite float is m * 2 ^ e with a sign; its size is a / c. Assumes nothing.
--
-- thousand       the float 1000
-- thousandths    the voltage times 1000, rounded once
-- nearest_whole  the whole number nearest to a / c, a half away from zero: the one place of that rule
-- Nearest        n is the whole number nearest to a / c, the upper one at a half: the rule as two bounds
-- signed         a size with its sign
-- out_of_range   18
-- in_range       the reading of a size, 18 from 10 ^ 9 on
-- reading_of     the reading of a float
-- Reads          the reading of a float, by bounds on its exact value
-- reading_at     the answer at a place of a sheet
use Rattle.std.specs.Prelude.{◌≡◌, ℕ, ◌+◌, ◌*◌, ◌/◌, ◌<◌, ◌≤◌, Bool, true, false, List, [], length, ℤ, pos, neg_ℤ, nat_le, slice_index_or, Float}
use Rattle.std.specs.Float.{nan, inf, fin, binary64}
use Rattle.std.specs.Float.Ieee.{up, down, mul}
use Rattle.sheet.specs.declared.plan.Plan.{Plan}
use Rattle.sheet.specs.declared.row.Row.{Row}
use Rattle.sheet.specs.Calls.{on_place, present}
use Rattle.sheet.specs.Plans.{branch_at}
use Rattle.sheet.specs.Refusals.{Answer, granted, refused, refuse, after}
use Rattle.arithmetic.specs.Binary64.{nought}

abbrev pub thousand : Float
thousand = fin false 125 (pos 3)

abbrev pub thousandths : Float → Float
thousandths v = mul binary64 v thousand

abbrev pub nearest_whole : ℕ → ℕ → ℕ
nearest_whole a c = (2 * a + c) / (2 * c)

pub record Nearest (a c n : ℕ) : Type 0 where
  pub least : 2 * n * c ≤ 2 * a + c
  pub most : 2 * a < 2 * n * c + c

abbrev pub signed : Bool → ℕ → ℤ
signed false n = pos n
signed true n = neg_ℤ (pos n)

abbrev pub out_of_range : Answer ℤ
out_of_range = refused (record { number = 18; words = [] })

abbrev pub in_range : Bool → ℕ → Answer ℤ
in_range s n = refuse 18 (nat_le 1_000_000_000 n) (granted (signed s n))

unfoldable pub reading_of : Float → Answer ℤ
reading_of nan = out_of_range
reading_of (inf s) = out_of_range
reading_of (fin s m e) = in_range s (nearest_whole (m * up e) (down e))

unfoldable pub Reads : Float → Answer ℤ → Type 0
Reads nan a = a ≡ out_of_range
Reads (inf s) a = a ≡ out_of_range
Reads (fin s m e) a = (n : ℕ) × Nearest (m * up e) (down e) n × (a ≡ in_range s n)

abbrev pub reading_at : Plan → List (Row Float) → ℕ → Answer ℤ
reading_at plan rows k =
    on_place (length rows) k
    (after (present (branch_at plan k)) (λ _.
    reading_of (thousandths (slice_index_or rows k (record { value = nought; start = nought; current = nought; voltage = nought })).voltage)))
