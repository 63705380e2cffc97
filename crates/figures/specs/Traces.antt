-- Traces: the least, greatest and last voltage taken, and how many. Assumes nothing.
--
-- fresh_trace   all zero
-- lesser        the new voltage where it is strictly below the old, else the old
-- greater       the new voltage where it is strictly above the old, else the old
-- with_taking   the trace with one more voltage: the first is least, greatest and last
-- taken         the answer to a taking, with the trace after it
-- left          the trace after an answer: a refused taking leaves it as it was
-- more_granted  the voltages granted, one more where the answer is granted
-- Took          a call takes as the answer says
-- WasTaken      a float stands in a list
-- Extremes      least and greatest bound a list and stand in it, and last is its last
-- Sums          a trace sums up a list of granted voltages
-- after_all     the trace after a list of takings
-- granted_of    the voltages of a list of takings that were granted
-- if_granted    the list with a voltage in front where the answer is granted
use Rattle.std.specs.Prelude.{◌≡◌, ℕ, ◌+◌, ◌-◌, ◌<◌, cond, not, T, List, [], ◌∷◌, ◌++◌, length, ◌==◌, nat_le, slice_index_or, Float}
use Rattle.std.specs.Float.Ieee.{lt, le}
use Rattle.std.specs.Float.{float_is_finite}
use Rattle.sheet.specs.Refusals.{Answer, granted, refused, refuse, Verdict, verdict_of}
use Rattle.arithmetic.specs.Binary64.{nought}
use Rattle.figures.specs.declared.trace.Trace.{Trace}

abbrev pub fresh_trace : Trace
fresh_trace = record { least = nought; greatest = nought; last = nought; count = 0 }

abbrev pub lesser : Float → Float → Float
lesser v old = cond (lt v old) v old

abbrev pub greater : Float → Float → Float
greater v old = cond (lt old v) v old

abbrev pub with_taking : Trace → Float → Trace
with_taking t v = record {
  least = cond (t.count == 0) v (lesser v t.least);
  greatest = cond (t.count == 0) v (greater v t.greatest);
  last = v;
  count = t.count + 1;
}

abbrev pub taken : Trace → Float → Answer Trace
taken t v = refuse 19 (not (float_is_finite v)) (refuse 20 (nat_le 1_000_000 t.count) (granted (with_taking t v)))

abbrev pub left : Trace → Answer Trace → Trace
left t (granted u) = u
left t (refused r) = t

abbrev pub more_granted : {X : Type 0} → Answer X → List Float → Float → List Float
more_granted (granted x) g v = g ++ v ∷ []
more_granted (refused r) g v = g

pub record Took (t : Trace) (v : Float) (r : Verdict) (t' : Trace) : Type 0 where
  pub answers : r ≡ verdict_of (taken t v)
  pub traces : t' ≡ left t (taken t v)

abbrev pub WasTaken : List Float → Float → Type 0
WasTaken g x = (k : ℕ) × (k < length g) × (slice_index_or g k nought ≡ x)

pub record Extremes (g : List Float) (t : Trace) : Type 0 where
  pub least : WasTaken g t.least
  pub below : (k : ℕ) → k < length g → T (le t.least (slice_index_or g k nought))
  pub greatest : WasTaken g t.greatest
  pub above : (k : ℕ) → k < length g → T (le (slice_index_or g k nought) t.greatest)
  pub last : t.last ≡ slice_index_or g (length g - 1) nought

pub record Sums (g : List Float) (t : Trace) : Type 0 where
  pub count : t.count ≡ length g
  pub none : length g ≡ 0 → t ≡ fresh_trace
  pub some : 0 < length g → Extremes g t

unfoldable pub after_all : Trace → List Float → Trace
after_all t [] = t
after_all t (v ∷ vs) = after_all (left t (taken t v)) vs

abbrev pub if_granted : {X : Type 0} → Answer X → Float → List Float → List Float
if_granted (granted x) v g = v ∷ g
if_granted (refused r) v g = g

unfoldable pub granted_of : Trace → List Float → List Float
granted_of t [] = []
granted_of t (v ∷ vs) = if_granted (taken t v) v (granted_of (left t (taken t v)) vs)
