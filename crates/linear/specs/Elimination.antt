-- Elimination and back substitution in place, in one flat list, each operation in its order. Assumes nothing.
--
-- cell r c           where the entry of row r in column c stands; the right side of each row stands in column n
-- entry o w r c      what stands there
-- lose_entry         the lower row's entry in column c loses factor × the upper row's
-- lose_row           the lower row loses entry / pivot × the pivot's row, from the pivot's column to the right side
-- clear              so does each row below the pivot's, in turn
-- swap_entry         the two rows' entries in column c change places
-- swap_rows          so do their entries in all columns, and their right sides
-- pivot_row          the first row at or below c whose entry in column c may be divided by; n where there is none
-- eliminate_column   column c: its pivot's row is swapped up and the rows below are cleared; stops where there is no pivot
-- eliminate          the columns 0 to n - 1 in turn
-- lose_found         the right side of row r loses entry × found value in column c
-- divide             the right side of row r is divided by the pivot
-- back_row           row r: the columns after r ascending, then the division; the found value stands in the right side
-- back               the rows n - 1 down to 0
-- solved             elimination, and back substitution where every column had a pivot
use Rattle.std.specs.Prelude.{ℕ, ◌+◌, ◌-◌, ◌*◌, cond, List, nat_lt, slice_index_or, slice_set}
use Rattle.arithmetic.specs.Ops.{Ops, may_divide}
use Rattle.linear.specs.Loops.{Tried, steps, down, first, tries}

abbrev pub cell : ℕ → ℕ → ℕ
cell r c = 64 + r * 16 + c

abbrev pub entry : {M : Type 0} → Ops M → List M → ℕ → ℕ → M
entry o w r c = slice_index_or w (cell r c) o.nought

abbrev pub lose_entry : {M : Type 0} → Ops M → ℕ → ℕ → M → ℕ → List M → List M
lose_entry o upper lower factor c w = slice_set w (cell lower c) (o.sub (entry o w lower c) (o.mul factor (entry o w upper c)))

abbrev pub lose_row : {M : Type 0} → Ops M → ℕ → ℕ → ℕ → List M → List M
lose_row o n p r w = steps (lose_entry o p r (o.div (entry o w r p) (entry o w p p))) (n + 1 - p) p w

abbrev pub clear : {M : Type 0} → Ops M → ℕ → ℕ → List M → List M
clear o n p w = steps (lose_row o n p) (n - (p + 1)) (p + 1) w

abbrev pub swap_entry : {M : Type 0} → Ops M → ℕ → ℕ → ℕ → List M → List M
swap_entry o upper lower c w = slice_set (slice_set w (cell upper c) (entry o w lower c)) (cell lower c) (entry o w upper c)

abbrev pub swap_rows : {M : Type 0} → Ops M → ℕ → ℕ → ℕ → List M → List M
swap_rows o n upper lower w = steps (swap_entry o upper lower) (n + 1) 0 w

abbrev pub pivot_row : {M : Type 0} → Ops M → ℕ → ℕ → List M → ℕ
pivot_row o n c w = first (λ r. may_divide o (entry o w r c)) (n - c) c

abbrev pub eliminate_column : {M : Type 0} → Ops M → ℕ → ℕ → List M → Tried (List M)
eliminate_column o n c w = record {
  ok = nat_lt (pivot_row o n c w) n;
  left = cond (nat_lt (pivot_row o n c w) n) (clear o n c (swap_rows o n c (pivot_row o n c w) w)) w;
}

abbrev pub eliminate : {M : Type 0} → Ops M → ℕ → List M → Tried (List M)
eliminate o n w = tries (eliminate_column o n) n 0 w

abbrev pub lose_found : {M : Type 0} → Ops M → ℕ → ℕ → ℕ → List M → List M
lose_found o n r c w = slice_set w (cell r n) (o.sub (entry o w r n) (o.mul (entry o w r c) (entry o w c n)))

abbrev pub divide : {M : Type 0} → Ops M → ℕ → ℕ → List M → List M
divide o n r w = slice_set w (cell r n) (o.div (entry o w r n) (entry o w r r))

abbrev pub back_row : {M : Type 0} → Ops M → ℕ → ℕ → List M → List M
back_row o n r w = divide o n r (steps (lose_found o n r) (n - (r + 1)) (r + 1) w)

abbrev pub back : {M : Type 0} → Ops M → ℕ → List M → List M
back o n w = down (back_row o n) n w

abbrev pub solved : {M : Type 0} → Ops M → ℕ → List M → Tried (List M)
solved o n w = record {
  ok = (eliminate o n w).ok;
  left = cond (eliminate o n w).ok (back o n (eliminate o n w).left) (eliminate o n w).left;
}
