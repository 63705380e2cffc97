-- What a look at a place answers. Assumes nothing.
--
-- shown    a branch with its row
-- seen     what stands at a place, if there is a branch and the row table has 32 rows
use Rattle.std.specs.Prelude.{ℕ, cond, ◌&&◌, List, length, None, Option, ◌==◌, nat_lt, slice_index_or}
use Rattle.std.specs.Option.{option_map}
use Rattle.sheet.specs.declared.branch.Branch.{Branch}
use Rattle.sheet.specs.declared.look.Look.{Look}
use Rattle.sheet.specs.declared.plan.Plan.{Plan}
use Rattle.sheet.specs.declared.row.Row.{Row}
use Rattle.sheet.specs.Plans.{branch_at}

abbrev pub shown : {V : Type 0} → Row V → Branch → Look V
shown r b = record {
  kind = b.kind;
  tail = b.ends.tail;
  head = b.ends.head;
  value = r.value;
  start = r.start;
  current = r.current;
  voltage = r.voltage;
}

abbrev pub seen : {V : Type 0} → V → Plan → List (Row V) → ℕ → Option (Look V)
seen nil p rows k =
    cond (length rows == 32 && nat_lt k 32)
    (option_map (shown (slice_index_or rows k (record { value = nil; start = nil; current = nil; voltage = nil }))) (branch_at p k))
    None
