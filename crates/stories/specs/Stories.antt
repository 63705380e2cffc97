-- Stories: what a sheet is after a list of calls, and what is summed along them. Assumes nothing.
--
-- StoryCall       a call on a sheet with the length of the row table that was lent, or a step with its table and area lengths and its step length
-- blank_sheet     the sheet that a granted blank leaves
-- answer_by a     what a call answers on a sheet, where a answers with a plan's tree
-- run_by a cs     the sheet after the calls cs, the latest first, from the blank sheet; a refused call leaves the sheet
-- start_by a cs k the start that the last granted place at k was given
-- sum_by a f cs k the sum, over the steps granted since that place, of step length × the figure f that the step left in the row of k
-- run             the same by the tree's call
use Rattle.std.specs.Prelude.{ℕ, cond, List, [], ◌∷◌, replicate, ◌==◌}
use Rattle.arithmetic.specs.Ops.{Ops}
use Rattle.sheet.specs.declared.row.Row.{Row}
use Rattle.sheet.specs.Calls.{Sheet, Call, blank, place, lift, set_value, zero_row, outcome, left}
use Rattle.sheet.specs.Plans.{empty_plan}
use Rattle.sheet.specs.Refusals.{Answer, granted, refused}
use Rattle.sheet.specs.Meanings.{meanings}
use Rattle.topology.specs.Trees.{tree_of}
use Rattle.stories.specs.Steps.{row_at, TreeCall, stepped_by}

pub data StoryCall (M : Type 0) : Type 0 where
  on_sheet : ℕ → Call M → StoryCall M
  step : ℕ → ℕ → M → StoryCall M

abbrev pub blank_sheet : {M : Type 0} → Ops M → Sheet M
blank_sheet o = record { plan = empty_plan; rows = replicate 32 (zero_row (meanings o)) }

abbrev pub answer_by : {M : Type 0} → Ops M → TreeCall → StoryCall M → Sheet M → Answer (Sheet M)
answer_by o a (on_sheet n c) s = outcome (meanings o) n c s
answer_by o a (step n area h) s = stepped_by o a n area h s

unfoldable pub run_by : {M : Type 0} → Ops M → TreeCall → List (StoryCall M) → Sheet M
run_by o a [] = blank_sheet o
run_by o a (c ∷ cs) = left (run_by o a cs) (answer_by o a c (run_by o a cs))

-- the start after one more call, from the one before it and the call's answer
abbrev pub new_start : {M : Type 0} → ℕ → StoryCall M → M → Answer (Sheet M) → M
new_start k (on_sheet n blank) old a = old
new_start k (on_sheet n (place p)) old (granted t) = cond (p.number == k) p.start old
new_start k (on_sheet n (place p)) old (refused t) = old
new_start k (on_sheet n (lift j)) old a = old
new_start k (on_sheet n (set_value j v)) old a = old
new_start k (step n area h) old a = old

-- the sum after one more call
abbrev pub new_sum : {M : Type 0} → Ops M → (Row M → M) → ℕ → StoryCall M → M → Answer (Sheet M) → M
new_sum o f k (on_sheet n blank) old a = old
new_sum o f k (on_sheet n (place p)) old (granted t) = cond (p.number == k) o.nought old
new_sum o f k (on_sheet n (place p)) old (refused t) = old
new_sum o f k (on_sheet n (lift j)) old a = old
new_sum o f k (on_sheet n (set_value j v)) old a = old
new_sum o f k (step n area h) old (granted t) = o.add old (o.mul h (f (row_at o t.rows k)))
new_sum o f k (step n area h) old (refused t) = old

unfoldable pub start_by : {M : Type 0} → Ops M → TreeCall → List (StoryCall M) → ℕ → M
start_by o a [] k = o.nought
start_by o a (c ∷ cs) k = new_start k c (start_by o a cs k) (answer_by o a c (run_by o a cs))

unfoldable pub sum_by : {M : Type 0} → Ops M → TreeCall → (Row M → M) → List (StoryCall M) → ℕ → M
sum_by o a f [] k = o.nought
sum_by o a f (c ∷ cs) k = new_sum o f k c (sum_by o a f cs k) (answer_by o a c (run_by o a cs))

-- who unfolds run unfolds run_by too
unfoldable pub run : {M : Type 0} → Ops M → List (StoryCall M) → Sheet M
unfolding run_by
run o = run_by o tree_of
