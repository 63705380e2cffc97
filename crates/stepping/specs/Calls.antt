-- The call `step`: what it answers and leaves, and what that is in a story. Assumes nothing.
--
-- cleared         the work area with zero, as `zero()` answers it, at its first 304 places
-- spends          a verdict after which the area is cleared: granted, 14 or 15
-- StepDoes        a step of the program: this verdict, and these rows and this area after it
-- StepSolved      what a step of a length that is not zero and with areas of the stated sizes means
-- Continues       a step of the program is the next call of a story, with that meaning
use Rattle.std.specs.Prelude.{◌≡◌, ℕ, ◌≤◌, Bool, true, cond, ◌||◌, T, ◌↔◌, List, ◌∷◌, ◌++◌, map, length, drop, replicate, ◌==◌}
use Rattle.arithmetic.specs.Ops.{Ops, may_divide}
use Rattle.sheet.specs.declared.plan.Plan.{Plan}
use Rattle.sheet.specs.declared.row.Row.{Row}
use Rattle.sheet.specs.Calls.{Sheet, left}
use Rattle.sheet.specs.Meanings.{meant_row, meant_sheet}
use Rattle.sheet.specs.Refusals.{Told, Verdict, pass, fail, verdict_of}
use Rattle.graphs.specs.Graph.{◌∈◌}
use Rattle.networks.specs.Networks.{placed}
use Rattle.stories.specs.Laws.{Live}
use Rattle.stories.specs.Steps.{row_at, stepped}
use Rattle.stories.specs.Stories.{StoryCall, step, run}
use Rattle.stories.specs.Theorem.{OnlyZeroDead}
use Rattle.stepping.specs.Steps.{given, Others}

unfoldable pub cleared : {V : Type 0} → V → List V → List V
cleared nil w = replicate 304 nil ++ drop 304 w

abbrev pub spends : Verdict → Bool
spends pass = true
spends (fail t) = t.number == 14 || t.number == 15

pub record StepDoes {V M : Type 0} (o : Ops M) (mean : V → M) (nil : V) (plan : Plan) (rows : List (Row V)) (h : V) (work : List V) (v : Verdict) (rows' : List (Row V)) (work' : List V) : Type 0 where
  pub answers : v ≡ verdict_of (stepped o (length rows) (length work) (mean h) (meant_sheet mean (record { plan = plan; rows = rows })))
  pub tables : map (meant_row mean) rows' ≡ (left (meant_sheet mean (record { plan = plan; rows = rows })) (stepped o (length rows) (length work) (mean h) (meant_sheet mean (record { plan = plan; rows = rows })))).rows
  -- values and starts stay what they were given, and the rows of empty places as they were; a refused step leaves every row
  pub gives : map given rows' ≡ map given rows
  pub others : Others plan rows rows'
  pub alone : (t : Told) → v ≡ fail t → rows' ≡ rows
  pub places : work' ≡ cond (spends v) (cleared nil work) work

-- in an exact arithmetic: granted exactly if only the zero list is dead; the rows it leaves are then the one live list
pub record StepSolved {M : Type 0} (o : Ops M) (h : M) (s : Sheet M) (v : Verdict) (s' : Sheet M) : Type 0 where
  pub exactly : v ≡ pass ↔ OnlyZeroDead o h s
  pub obeys : v ≡ pass → Live o s.plan (row_at o s.rows) h (λ k. (row_at o s'.rows k).current) (λ k. (row_at o s'.rows k).voltage)
  pub only :
      v ≡ pass → (i u : ℕ → M) → Live o s.plan (row_at o s.rows) h i u →
      (k : ℕ) → k ∈ placed s.plan → (i k ≡ (row_at o s'.rows k).current) × (u k ≡ (row_at o s'.rows k).voltage)

-- a step of length h with so many rows and places, on the sheet s that the story cs has made, with this verdict and this sheet after it
pub record Continues {M : Type 0} (o : Ops M) (exact : Bool) (cs : List (StoryCall M)) (n area : ℕ) (h : M) (s : Sheet M) (v : Verdict) (s' : Sheet M) : Type 0 where
  pub next : run o (step n area h ∷ cs) ≡ s'
  pub solved : T exact → may_divide o h ≡ true → 304 ≤ area → StepSolved o h s v s'
