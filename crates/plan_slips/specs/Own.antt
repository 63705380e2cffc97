-- The slip of a plan: its tree, and the loop row of every link, ascending. Assumes nothing.
--
-- row_of     the slip row of that number, where there is a loop row
-- own_rows   the slip rows of the links below k, over the tree w
-- OwnSlip    12 and 13 leave the area alone; else the area holds the slip of the tree and all these rows and gives it
--            back, or it is blank and the slip is refused
use Rattle.std.specs.Prelude.{◌≡◌, ℕ, zero, suc, List, [], ◌∷◌, ◌++◌, length, Some, None, Option, Result, MatchResult}
use Rattle.sheet.specs.declared.plan.Plan.{Plan}
use Rattle.sheet.specs.declared.refusal.Refusal.{Refusal}
use Rattle.sheet.specs.declared.refusal.Shown.{Shown}
use Rattle.sheet.specs.Refusals.{granted, refused, told, Told}
use Rattle.slips.specs.declared.row.SlipRow.{SlipRow}
use Rattle.slips.specs.Entries.{entries_of}
use Rattle.slips.specs.Writing.{blanked, slip_answer, Past, ReadsBack}
use Rattle.topology.specs.Trees.{tree_of, loop_of}

abbrev pub row_of : ℕ → Option Shown → List SlipRow
row_of k None = []
row_of k (Some s) = record { number = k; entries = entries_of s.members s.against } ∷ []

unfoldable pub own_rows : Plan → ℕ → ℕ → List SlipRow
own_rows p w zero = []
own_rows p w (suc k) = own_rows p w k ++ row_of k (loop_of p w k)

pub record OwnSlip (p : Plan) (before after : List ℕ) (r : Result ℕ Refusal) : Type 0 where
  pub refuses : (t : Told) → tree_of p ≡ refused t → (told r ≡ refused t) × (after ≡ before)
  pub answers : (w : ℕ) → tree_of p ≡ granted w → told r ≡ slip_answer (length before) (own_rows p w 32)
  pub writes :
      (w : ℕ) → tree_of p ≡ granted w → MatchResult r (ReadsBack (record { tree = w; rows = own_rows p w 32 }) after) (λ _. after ≡ blanked before)
  pub past : Past before after
