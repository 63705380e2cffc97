-- What the code of a step's results is compared with. Assumes nothing.
--
-- all             every number
-- in_use c        the fixed and the feeding branches
-- at_members      the values of the members of a set; zero at every other place
-- voltage_at      the voltages of the tree and of the links
-- current_at      the currents of the branches in use
-- found o w n     the value found for each place among the unknowns: the right side of its row in the solved area w
-- linked          what the tree branch t of voltage u makes of the voltage a at a place: taken to it by the sign of a link
-- Filled S f n    a list of 32 that has f k at each place k below n that is in S
use Rattle.std.specs.Prelude.{◌≡◌, ℕ, ◌<◌, true, cond, not, ◌&&◌, ◌||◌, List, length, slice_index_or}
use Rattle.arithmetic.specs.Ops.{Ops}
use Rattle.graphs.specs.Graph.{Set, ◌∈◌}
use Rattle.linear.specs.Elimination.{entry}
use Rattle.stories.specs.Assembly.{taken, Parts}
use Rattle.stories.specs.Steps.{voltage_of, current_of}

abbrev pub all : Set
all k = true

abbrev pub in_use : {M : Type 0} → Parts M → Set
in_use c k = c.fixed k || c.feeding k

abbrev pub at_members : {M : Type 0} → Ops M → Set → (ℕ → M) → ℕ → M
at_members o S x k = cond (S k) (x k) o.nought

abbrev pub voltage_at : {M : Type 0} → Ops M → Parts M → (ℕ → M) → ℕ → M
voltage_at o c x = at_members o (λ k. c.tree k || c.link k) (voltage_of o c x)

abbrev pub current_at : {M : Type 0} → Ops M → Parts M → (ℕ → M) → ℕ → M
current_at o c x = at_members o (in_use c) (current_of o c x)

abbrev pub found : {M : Type 0} → Ops M → List M → ℕ → ℕ → M
found o w n r = entry o w r n

abbrev pub linked : {M : Type 0} → Ops M → Parts M → ℕ → M → ℕ → M → M
linked o c t u k a = cond (c.link k && not (c.tree k)) (taken o (c.row t k) u a) a

pub record Filled {M : Type 0} (o : Ops M) (S : Set) (f : ℕ → M) (n : ℕ) (xs : List M) : Type 0 where
  pub long : length xs ≡ 32
  pub each : (k : ℕ) → k < n → k ∈ S → slice_index_or xs k o.nought ≡ f k
