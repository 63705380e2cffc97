-- Two rows of a system, each as a list of its own that begins with the row's first entry. Assumes nothing.
--
-- lose_at o u t c l      the list l has at column c lost t × what stands there in u
-- lose_all o u t n p l   so it has from column p to column n
-- Two M, two u l         two lists at once
-- swap_at o c s          the two lists' entries at column c have changed places
-- swap_all o n u l       so have those of the columns 0 to n
use Rattle.std.specs.Prelude.{ℕ, ◌+◌, ◌-◌, List, slice_set}
use Rattle.arithmetic.specs.Ops.{Ops}
use Rattle.linear.specs.Loops.{steps}
use Rattle.linear.specs.Systems.{member}

abbrev pub lose_at : {M : Type 0} → Ops M → List M → M → ℕ → List M → List M
lose_at o u t c l = slice_set l c (o.sub (member o l c) (o.mul t (member o u c)))

abbrev pub lose_all : {M : Type 0} → Ops M → List M → M → ℕ → ℕ → List M → List M
lose_all o u t n p l = steps (lose_at o u t) (n + 1 - p) p l

pub record Two (M : Type 0) : Type 0 where
  pub upper : List M
  pub lower : List M

abbrev pub two : {M : Type 0} → List M → List M → Two M
two u l = record { upper = u; lower = l }

abbrev pub swap_at : {M : Type 0} → Ops M → ℕ → Two M → Two M
swap_at o c s = two (slice_set s.upper c (member o s.lower c)) (slice_set s.lower c (member o s.upper c))

abbrev pub swap_all : {M : Type 0} → Ops M → ℕ → List M → List M → Two M
swap_all o n u l = steps (swap_at o) (n + 1) 0 (two u l)
