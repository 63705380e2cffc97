-- One time step of a sheet: what it answers, and the rows that it leaves. Assumes nothing.
--
-- row_at          the row at a place
-- parts_of        what the system of a plan with a tree T, a step length and its rows is made of
-- solving         the system eliminated and solved
-- figure_of       the value found for an unknown, by its place among the unknowns
-- tree_voltage    the voltage of a tree branch: a voltage source's value, else the found one
-- voltage_of      the voltage of a branch: a link's is the signed sum of the tree's
-- flow_of         the current of a branch that is no voltage source: conductance × voltage + feed, or the feed
-- current_of      the current of a branch: a voltage source's is what the links of its cut leave
-- Result          the currents and voltages of a step
-- result_of       what the parts give with a value for each unknown
-- step_parts, step_result
--                 the parts of a sheet's next step, and what it finds
-- renewed         a row with a new current and voltage
-- renewed_rows    the rows with those of every placed branch
-- unsound         some current or voltage of a placed branch is unsound
-- Showing         what refusals 12 and 13 show of a plan
-- showing         refused by that number with these words where the test holds, else what follows
-- TreeCall        for each plan a tree's word, or a refusal
-- tree_showing w  the branches kept; 12 with what w shows where a voltage source is none of them, 13 where a current source is one
-- stepped_by a    the answer to a step: table and area lengths, step length, what a answers of the plan, sheet
-- stepped         the answer to a step by the tree's call
use Rattle.std.specs.Prelude.{ℕ, Bool, true, false, cond, not, ◌&&◌, ◌||◌, List, ◌==◌, nat_lt, slice_index_or, slice_set}
use Rattle.arithmetic.specs.Ops.{Ops, may_divide}
use Rattle.sheet.specs.declared.plan.Plan.{Plan}
use Rattle.sheet.specs.declared.row.Row.{Row}
use Rattle.sheet.specs.Calls.{Sheet, zero_row}
use Rattle.sheet.specs.Meanings.{meanings}
use Rattle.sheet.specs.Refusals.{Answer, granted, refused, refuse, after}
use Rattle.graphs.specs.Graph.{Set, count}
use Rattle.graphs.specs.Cuts.{turned, cut_row}
use Rattle.linear.specs.Elimination.{entry, solved}
use Rattle.linear.specs.Loops.{Tried}
use Rattle.networks.specs.Networks.{graph_of, placed}
use Rattle.topology.specs.Trees.{tree_set, loose, late, tree_of}
use Rattle.networks.specs.Words.{word}
use Rattle.stories.specs.Networks.{kind_at, is_voltage, is_current, is_passive, any}
use Rattle.stories.specs.Companions.{conductance, feed}
use Rattle.stories.specs.Assembly.{through, taken, Parts, size, assembled}

unfoldable pub row_at : {M : Type 0} → Ops M → List (Row M) → ℕ → Row M
row_at o rows k = slice_index_or rows k (zero_row (meanings o))

unfoldable pub parts_of : {M : Type 0} → Ops M → Plan → Set → M → (ℕ → Row M) → Parts M
parts_of o p T h at = record {
  passive = λ k. is_passive (kind_at p k);
  feeding = λ k. is_passive (kind_at p k) || is_current (kind_at p k);
  fixed = λ k. is_voltage (kind_at p k);
  tree = T;
  unknown = λ k. T k && not (is_voltage (kind_at p k));
  link = λ k. placed p k && not (T k);
  row = cut_row (graph_of p) T 32;
  conductance = λ k. conductance o h (kind_at p k) (at k);
  feed = λ k. feed o h (kind_at p k) (at k);
  level = λ k. (at k).value;
}

unfoldable pub solving : {M : Type 0} → Ops M → Parts M → Tried (List M)
solving o c = solved o (size c) (assembled o c)

abbrev pub figure_of : {M : Type 0} → Ops M → Parts M → ℕ → M
figure_of o c r = entry o (solving o c).left r (size c)

abbrev pub tree_voltage : {M : Type 0} → Parts M → (ℕ → M) → ℕ → M
tree_voltage c x t = cond (c.fixed t) (c.level t) (x (count c.unknown t))

unfoldable pub voltage_of : {M : Type 0} → Ops M → Parts M → (ℕ → M) → ℕ → M
voltage_of o c x k =
    cond (c.tree k) (tree_voltage c x k)
    (through (λ t a. cond (c.tree t) (taken o (c.row t k) (tree_voltage c x t) a) a) 32 o.nought)

unfoldable pub flow_of : {M : Type 0} → Ops M → Parts M → (ℕ → M) → ℕ → M
flow_of o c x k = cond (c.passive k) (o.add (o.mul (c.conductance k) (voltage_of o c x k)) (c.feed k)) (c.feed k)

unfoldable pub current_of : {M : Type 0} → Ops M → Parts M → (ℕ → M) → ℕ → M
current_of o c x k =
    cond (c.fixed k)
    (through (λ j a. cond (c.link j) (taken o (turned (c.row k j)) (flow_of o c x j) a) a) 32 o.nought)
    (flow_of o c x k)

pub record Result (M : Type 0) : Type 0 where
  pub current : ℕ → M
  pub voltage : ℕ → M

abbrev pub result_of : {M : Type 0} → Ops M → Parts M → (ℕ → M) → Result M
result_of o c x = record { current = current_of o c x; voltage = voltage_of o c x }

abbrev pub renewed : {M : Type 0} → Row M → M → M → Row M
renewed r i u = record { value = r.value; start = r.start; current = i; voltage = u }

unfoldable pub renewed_rows : {M : Type 0} → Ops M → Plan → List (Row M) → Result M → List (Row M)
renewed_rows o p rows f =
    through (λ k rs. cond (placed p k) (slice_set rs k (renewed (row_at o rows k) (f.current k) (f.voltage k))) rs) 32 rows

unfoldable pub unsound : {M : Type 0} → Ops M → Plan → Result M → Bool
unsound o p f = any (λ k. placed p k && not (o.is_sound (f.current k) && o.is_sound (f.voltage k))) 32

-- the parts of a sheet's next step, and what it finds
abbrev pub step_parts : {M : Type 0} → Ops M → M → Sheet M → Parts M
step_parts o h s = parts_of o s.plan (tree_set s.plan) h (row_at o s.rows)

abbrev pub step_result : {M : Type 0} → Ops M → M → Sheet M → Result M
step_result o h s = result_of o (step_parts o h s) (figure_of o (step_parts o h s))

pub record Showing : Type 0 where
  pub loop : Plan → List ℕ
  pub cut : Plan → List ℕ

abbrev pub showing : {X : Type 0} → ℕ → List ℕ → Bool → Answer X → Answer X
showing n ws true rest = refused (record { number = n; words = ws })
showing n ws false rest = rest

abbrev pub TreeCall : Type 0
TreeCall = Plan → Answer ℕ

abbrev pub tree_showing : Showing → TreeCall
tree_showing w p =
    showing 12 (w.loop p) (any (loose p) 32)
    (showing 13 (w.cut p) (any (late p) 32)
    (granted (word (tree_set p))))

abbrev pub stepped_by : {M : Type 0} → Ops M → TreeCall → ℕ → ℕ → M → Sheet M → Answer (Sheet M)
stepped_by o a n area h s =
    refuse 1 (not (n == 32) || nat_lt area 304)
    (refuse 11 (not (o.is_sound h && may_divide o h))
    (after (a s.plan) (λ tree.
    refuse 14 (not (solving o (step_parts o h s)).ok)
    (refuse 15 (unsound o s.plan (step_result o h s))
    (granted (record { plan = s.plan; rows = renewed_rows o s.plan s.rows (step_result o h s) }))))))

abbrev pub stepped : {M : Type 0} → Ops M → ℕ → ℕ → M → Sheet M → Answer (Sheet M)
stepped o = stepped_by o tree_of
