-- The system of one step, from conductances, feeds and cut rows alone, each operation in its order. Assumes nothing.
--
-- through f n w      w after f 0, f 1, and so on, n turns
-- taken s x a        a with x added at plus, subtracted at minus, as it is at none
-- agree s r          plus where both signs are there and equal, minus where they are opposite, else none
-- Parts M            what the system is made of
-- entry_of t r       the matrix entry of the unknowns t and r: the conductances in both their cuts
-- fed t              the feeds over the cut of t, subtracted at plus
-- levelled t v       and then, for the fixed branch v, conductance × its level over both cuts
-- right_of t         the right side of t: fed, then levelled by each fixed branch in turn
-- size               how many unknowns there are; the unknown t has row and column count unknown t
-- blank_area         304 zeros
-- with_companions    conductance and feed of each branch k but voltage sources at the places k and 32 + k
-- with_row           the row of t with its right side
-- written w          the area w with all rows, lower unknowns first
-- assembled          the whole area: all rows over the companions in a blank one
use Rattle.std.specs.Prelude.{ℕ, zero, suc, ◌+◌, cond, List, replicate, slice_set}
use Rattle.arithmetic.specs.Ops.{Ops}
use Rattle.graphs.specs.Graph.{Set, count, Sign, plus, none, minus}
use Rattle.graphs.specs.Cuts.{turned}
use Rattle.linear.specs.Elimination.{cell}

unfoldable pub through : {W : Type 0} → (ℕ → W → W) → ℕ → W → W
through f zero w = w
through f (suc n) w = f n (through f n w)

abbrev pub taken : {M : Type 0} → Ops M → Sign → M → M → M
taken o plus x a = o.add a x
taken o none x a = a
taken o minus x a = o.sub a x

abbrev pub agree : Sign → Sign → Sign
agree plus plus = plus
agree plus none = none
agree plus minus = minus
agree none plus = none
agree none none = none
agree none minus = none
agree minus plus = minus
agree minus none = none
agree minus minus = plus

pub record Parts (M : Type 0) : Type 0 where
  -- resistors, inductors and capacitors; these and current sources; voltage sources
  pub passive : Set
  pub feeding : Set
  pub fixed : Set
  -- tree branches; those of unknown voltage; links
  pub tree : Set
  pub unknown : Set
  pub link : Set
  -- the cut row of a tree branch at each branch
  pub row : ℕ → ℕ → Sign
  pub conductance : ℕ → M
  pub feed : ℕ → M
  -- the voltage of a fixed branch
  pub level : ℕ → M

unfoldable pub entry_of : {M : Type 0} → Ops M → Parts M → ℕ → ℕ → M
entry_of o c t r = through (λ k a. cond (c.passive k) (taken o (agree (c.row t k) (c.row r k)) (c.conductance k) a) a) 32 o.nought

unfoldable pub fed : {M : Type 0} → Ops M → Parts M → ℕ → M
fed o c t = through (λ k a. cond (c.feeding k) (taken o (turned (c.row t k)) (c.feed k) a) a) 32 o.nought

unfoldable pub levelled : {M : Type 0} → Ops M → Parts M → ℕ → ℕ → M → M
levelled o c t v b = through (λ k a. cond (c.passive k) (taken o (turned (agree (c.row t k) (c.row v k))) (o.mul (c.conductance k) (c.level v)) a) a) 32 b

unfoldable pub right_of : {M : Type 0} → Ops M → Parts M → ℕ → M
right_of o c t = through (λ v a. cond (c.fixed v) (levelled o c t v a) a) 32 (fed o c t)

abbrev pub size : {M : Type 0} → Parts M → ℕ
size c = count c.unknown 32

unfoldable pub blank_area : {M : Type 0} → Ops M → List M
blank_area o = replicate 304 o.nought

unfoldable pub with_companions : {M : Type 0} → Ops M → Parts M → List M → List M
with_companions o c w = through (λ k w. cond (c.feeding k) (slice_set (slice_set w k (c.conductance k)) (32 + k) (c.feed k)) w) 32 w

unfoldable pub with_row : {M : Type 0} → Ops M → Parts M → ℕ → List M → List M
with_row o c t w =
    slice_set (through (λ r w. cond (c.unknown r) (slice_set w (cell (count c.unknown t) (count c.unknown r)) (entry_of o c t r)) w) 32 w)
    (cell (count c.unknown t) (size c)) (right_of o c t)

abbrev pub written : {M : Type 0} → Ops M → Parts M → List M → List M
written o c w = through (λ t w. cond (c.unknown t) (with_row o c t w) w) 32 w

unfoldable pub assembled : {M : Type 0} → Ops M → Parts M → List M
assembled o c = written o c (with_companions o c (blank_area o))
