-- Solving reads and writes nothing but the system, in every arithmetic. Assumes nothing.
--
-- Outside n k     place k holds no entry and no right side of a system of n unknowns
-- SameSystem      two lists hold the same entries and right sides
-- Inside          all other places stay as they are, and nothing rests on what they hold
use Rattle.std.specs.Prelude.{◌≡◌, ℕ, ◌<◌, ◌≤◌, ◌≢◌, List, length}
use Rattle.arithmetic.specs.Ops.{Ops}
use Rattle.linear.specs.Elimination.{cell, entry, solved}
use Rattle.linear.specs.Systems.{member, found}

abbrev pub Outside : ℕ → ℕ → Type 0
Outside n k = (r c : ℕ) → r < n → c ≤ n → k ≢ cell r c

abbrev pub SameSystem : {M : Type 0} → Ops M → ℕ → List M → List M → Type 0
SameSystem o n w v = (r c : ℕ) → r < n → c ≤ n → entry o w r c ≡ entry o v r c

pub record Inside {M : Type 0} (o : Ops M) : Type 0 where
  pub writes : (n : ℕ) (w : List M) (k : ℕ) → Outside n k → member o (solved o n w).left k ≡ member o w k
  pub answers :
      (n : ℕ) (w v : List M) → n ≤ 15 → 304 ≤ length w → 304 ≤ length v → SameSystem o n w v →
      (solved o n w).ok ≡ (solved o n v).ok
  pub reads :
      (n : ℕ) (w v : List M) → n ≤ 15 → 304 ≤ length w → 304 ≤ length v → SameSystem o n w v →
      SameSystem o n (solved o n w).left (solved o n v).left
  pub finds :
      (n : ℕ) (w v : List M) → n ≤ 15 → 304 ≤ length w → 304 ≤ length v → SameSystem o n w v →
      found o n (solved o n w).left ≡ found o n (solved o n v).left
