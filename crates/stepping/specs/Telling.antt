-- The calls on a sheet as calls of a story. Assumes nothing.
--
-- CallsTellStories    a granted blank begins a story; each call goes on with it; one that is lent a row table of another
--                     length leaves plan, table and story's sheet
use Rattle.std.specs.Prelude.{◌≡◌, false, List, [], ◌∷◌, length, ◌==◌}
use Rattle.arithmetic.specs.Ops.{Ops}
use Rattle.sheet.specs.declared.plan.Plan.{Plan}
use Rattle.sheet.specs.declared.row.Row.{Row}
use Rattle.sheet.specs.Calls.{Sheet, Call, blank, Does}
use Rattle.sheet.specs.Meanings.{meanings}
use Rattle.sheet.specs.Refusals.{Verdict, pass}
use Rattle.stories.specs.Stories.{StoryCall, on_sheet, run}

pub record CallsTellStories {M : Type 0} (o : Ops M) : Type 0 where
  pub begins : (s s' : Sheet M) → Does (meanings o) blank s.plan s.rows pass s'.plan s'.rows → run o [] ≡ s'
  pub goes_on :
      (cs : List (StoryCall M)) (c : Call M) (s s' : Sheet M) (v : Verdict) → run o cs ≡ s → Does (meanings o) c s.plan s.rows v s'.plan s'.rows →
      run o (on_sheet (length s.rows) c ∷ cs) ≡ s'
  pub elsewhere :
      (cs : List (StoryCall M)) (c : Call M) (plan plan' : Plan) (table table' : List (Row M)) (v : Verdict) → (length table == 32) ≡ false → Does (meanings o) c plan table v plan' table' →
      (plan' ≡ plan) × (table' ≡ table) × (run o (on_sheet (length table) c ∷ cs) ≡ run o cs)
