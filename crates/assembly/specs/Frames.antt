-- What the code of an assembly reads its parts from. Assumes nothing.
--
-- cut_at f t      the row that a frame has for the tree branch t
-- gathered        the values x k of the members k of S, each taken by its sign, to a, lower numbers first
-- entered         the row of the unknown t without its right side
-- system_of       all rows, lower unknowns first
-- Frames c f      the frame f has the sets and cut rows of the parts c
-- FrameOf p w f   the frame f is that of the plan p with the tree of the word w
-- Holds o c w     the area w has each conductance at k and each feed at 32 + k
-- levels_of       the values of rows, by meaning; zero past the last
-- Levels c value  they are the levels of the fixed branches
-- Sets            frame, area and rows have the parts c
use Rattle.std.specs.Prelude.{◌≡◌, ℕ, ◌+◌, ◌<◌, cond, not, ◌&&◌, ◌||◌, List, map, slice_index_or, slice_set}
use Rattle.arithmetic.specs.Ops.{Ops}
use Rattle.sheet.specs.declared.plan.Plan.{Plan}
use Rattle.sheet.specs.declared.refusal.Shown.{Shown}
use Rattle.sheet.specs.declared.row.Row.{Row}
use Rattle.graphs.specs.Graph.{Set, ◌∈◌, count, Sign}
use Rattle.linear.specs.Elimination.{cell}
use Rattle.topology.specs.Matrices.{entry}
use Rattle.networks.specs.Networks.{placed}
use Rattle.topology.specs.Rows.{nothing}
use Rattle.topology.specs.Trees.{CutsOf}
use Rattle.networks.specs.Words.{bits}
use Rattle.stories.specs.Networks.{kind_at, is_passive, is_current, is_voltage}
use Rattle.stories.specs.Assembly.{through, taken, Parts, entry_of, with_row}
use Rattle.assembly.specs.declared.frame.Frame.{Frame}

abbrev pub cut_at : Frame → ℕ → Shown
cut_at f t = slice_index_or f.cuts t nothing

unfoldable pub gathered : {M : Type 0} → Ops M → Set → (ℕ → Sign) → (ℕ → M) → M → M
gathered o S s x a = through (λ k a. cond (S k) (taken o (s k) (x k) a) a) 32 a

unfoldable pub entered : {M : Type 0} → Ops M → Parts M → ℕ → List M → List M
entered o c t w = through (λ r w. cond (c.unknown r) (slice_set w (cell (count c.unknown t) (count c.unknown r)) (entry_of o c t r)) w) 32 w

unfoldable pub system_of : {M : Type 0} → Ops M → Parts M → List M → List M
system_of o c w = through (λ t w. cond (c.unknown t) (with_row o c t w) w) 32 w

pub record Frames {M : Type 0} (c : Parts M) (f : Frame) : Type 0 where
  pub passive : bits f.passive ≡ c.passive
  pub feeding : bits f.feeding ≡ c.feeding
  pub fixed : bits f.fixed ≡ c.fixed
  pub tree : bits f.tree ≡ c.tree
  pub unknown : bits f.unknown ≡ c.unknown
  pub link : bits f.link ≡ c.link
  pub rows : (t k : ℕ) → t ∈ c.tree → k < 32 → entry (cut_at f t) k ≡ c.row t k
  pub fixed_in : (v : ℕ) → v ∈ c.fixed → v ∈ c.tree
  pub unknown_in : (t : ℕ) → t ∈ c.unknown → t ∈ c.tree
  pub link_in : (k : ℕ) → k ∈ c.link → k ∈ c.feeding

pub record FrameOf (p : Plan) (w : ℕ) (f : Frame) : Type 0 where
  pub passive : bits f.passive ≡ (λ k. is_passive (kind_at p k))
  pub feeding : bits f.feeding ≡ (λ k. is_passive (kind_at p k) || is_current (kind_at p k))
  pub fixed : bits f.fixed ≡ (λ k. is_voltage (kind_at p k))
  pub tree : f.tree ≡ w
  pub unknown : bits f.unknown ≡ (λ k. bits w k && not (is_voltage (kind_at p k)))
  pub link : bits f.link ≡ (λ k. placed p k && not (bits w k))
  pub cuts : CutsOf p w f.cuts

pub record Holds {M : Type 0} (o : Ops M) (c : Parts M) (w : List M) : Type 0 where
  pub conductance : (k : ℕ) → k < 32 → k ∈ c.passive → slice_index_or w k o.nought ≡ c.conductance k
  pub feed : (k : ℕ) → k < 32 → k ∈ c.feeding → slice_index_or w (32 + k) o.nought ≡ c.feed k

unfoldable pub levels_of : {V M : Type 0} → Ops M → (V → M) → List (Row V) → ℕ → M
levels_of o mean rows v = slice_index_or (map (λ (r : Row _). mean r.value) rows) v o.nought

abbrev pub Levels : {M : Type 0} → Parts M → (ℕ → M) → Type 0
Levels c value = (v : ℕ) → v < 32 → v ∈ c.fixed → value v ≡ c.level v

pub record Sets {V M : Type 0} (o : Ops M) (mean : V → M) (c : Parts M) (f : Frame) (area : List V) (rows : List (Row V)) : Type 0 where
  pub frames : Frames c f
  pub holds : Holds o c (map mean area)
  pub levels : Levels c (levels_of o mean rows)
