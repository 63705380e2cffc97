-- What solving answers and leaves. Assumes nothing.
--
-- fits n places     there is room for n unknowns: at most 15, and at least 304 places
-- answered          no room, no pivot, or solved
-- answer o n w      what solving the system in the list w answers
-- leaves o n w      what it leaves: w itself where there is no room
-- below n i         i, where it is below n
-- pivot o n c w     the row that `pivot_row` names, where there is one
use Rattle.std.specs.Prelude.{ℕ, Bool, true, false, cond, List, length, Ok, Err, Result, Option, Some, None, nat_le, nat_lt}
use Rattle.arithmetic.specs.Ops.{Ops}
use Rattle.linear.specs.Elimination.{pivot_row, solved}
use Rattle.solver.specs.declared.Unsolved.{Unsolved}
use Rattle.solver.specs.declared.Unsolved.TheVariants.{NoRoom, NoPivot}

abbrev pub fits : ℕ → ℕ → Bool
fits n places = cond (nat_le n 15) (nat_le 304 places) false

abbrev pub answered : Bool → Bool → Result (Unit {0}) Unsolved
answered false pivots = Err NoRoom
answered true false = Err NoPivot
answered true true = Ok tt

unfoldable pub answer : {M : Type 0} → Ops M → ℕ → List M → Result (Unit {0}) Unsolved
answer o n w = answered (fits n (length w)) (solved o n w).ok

unfoldable pub leaves : {M : Type 0} → Ops M → ℕ → List M → List M
leaves o n w = cond (fits n (length w)) (solved o n w).left w

abbrev pub below : ℕ → ℕ → Option ℕ
below n i = cond (nat_lt i n) (Some i) None

abbrev pub pivot : {M : Type 0} → Ops M → ℕ → ℕ → List M → Option ℕ
pivot o n c w = below n (pivot_row o n c w)
