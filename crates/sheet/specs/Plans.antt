-- Plans: which branch stands at which place. Assumes nothing.
--
-- empty_plan    the plan with 32 empty places
-- branch_at     the branch at a place; none past the last place
-- with_branch   the plan with that branch, or none, at a place
use Rattle.std.specs.Prelude.{ℕ, replicate, None, Option, slice_index_or, slice_set}
use Rattle.sheet.specs.declared.branch.Branch.{Branch}
use Rattle.sheet.specs.declared.plan.Plan.{Plan}

abbrev pub empty_plan : Plan
empty_plan = record { places = replicate 32 None }

abbrev pub branch_at : Plan → ℕ → Option Branch
branch_at p k = slice_index_or p.places k None

abbrev pub with_branch : Plan → ℕ → Option Branch → Plan
with_branch p k b = record { places = slice_set p.places k b }
