-- Ends that a placement may have are those that it gets. Assumes nothing.
use Rattle.std.proofs.Common.{◌≡◌, ◌<◌}
use mathlib.Core.HLevel.{¬_prop}
use native.Mathlib.Bridge.{le_prop}
use native.Mathlib.Decide.{dec_lt, ℕ_discrete}
use Rattle.sheet.specs.declared.ends.Ends.{Ends}
use Rattle.sheet.specs.Calls.{joining, drawn}
use Rattle.sheet.specs.Refusals.{granted}

pub drawn_is : (e : Ends) → granted e ≡ drawn e.tail e.head
unfolding drawn
drawn_is e = go (dec_lt e.tail 16) (dec_lt e.head 16) (ℕ_discrete e.tail e.head)
  where
    go : (x : Dec (e.tail < 16)) (y : Dec (e.head < 16)) (z : Dec (e.tail ≡ e.head)) → granted e ≡ joining e.tail e.head x y z
    go (yes a) (yes b) (no c) =
        λ i. granted (record {
          tail = e.tail;
          head = e.head;
          tail_within = le_prop e.tail_within a i;
          head_within = le_prop e.head_within b i;
          apart = ¬_prop e.apart c i;
        })
    go (yes a) (yes b) (yes c) = absurd (e.apart c)
    go (yes a) (no b) z = absurd (b e.head_within)
    go (no a) y z = absurd (a e.tail_within)
