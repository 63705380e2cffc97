-- What each call does to a sheet: one function from a sheet, the length of the row table that was lent and the
-- arguments to the answer and the sheet that is left. Assumes nothing.
--
-- Numbers V     what a call asks of a value: which one stands for zero, and three questions
-- valued        these for the values of an arithmetic, whose questions go by meaning
-- Sheet V       a plan and its rows
-- Call V        a call with its arguments: number, kind, tail, head, value, start
-- zero_row      a row of zeros
-- takes_value   not refused by 8: sound, and on a resistor, an inductor or a capacitor fit to be divided by
-- takes_start   not refused by 9: sound, and zero but on an inductor or a capacitor
-- first_row     the row of a branch just placed: an inductor starts with a current, a capacitor with a voltage
-- known         a kind, if there is one; else 5
-- joining       two nodes as ends, once it is known whether each is below 16 and whether they differ; else 6 or 7
-- drawn         two nodes as ends, or 6 or 7
-- admitted      the branch and the first row of a placement, or 5 to 9
-- present       the branch that stands at a place, or 4
-- on_place      1 and 2, which every call on a place meets
-- revalued      a row with another value
-- blanked, placed, lifted, value_set
--               what each of the four calls answers
-- outcome       the answer of a call: granted with the sheet that it makes, or refused
-- left          the sheet after an answer: a refused call leaves it as it was
-- Does          a call of the program does what the outcome says: this verdict, and this plan and these rows after it
use Rattle.std.specs.Prelude.{◌≡◌, ℕ, ◌<◌, Bool, not, ◌&&◌, List, [], length, replicate, is_some, Some, None, Option, ◌==◌, nat_lt, slice_index_or, slice_set}
use Rattle.std.proofs.Math.Decide.{dec_lt, ℕ_discrete}
use Rattle.arithmetic.specs.Ops.{Ops, may_divide}
use Rattle.sheet.specs.declared.branch.Branch.{Branch}
use Rattle.sheet.specs.declared.kind.Kind.{Kind}
use Rattle.sheet.specs.declared.kind.Kind.TheVariants.{Resistor, Inductor, Capacitor, VoltageSource, CurrentSource}
use Rattle.sheet.specs.declared.ends.Ends.{Ends}
use Rattle.sheet.specs.declared.placement.Placement.{Placement}
use Rattle.sheet.specs.declared.plan.Plan.{Plan}
use Rattle.sheet.specs.declared.row.Row.{Row}
use Rattle.sheet.specs.Kinds.{kind_numbered, is_source}
use Rattle.sheet.specs.Plans.{empty_plan, branch_at, with_branch}
use Rattle.sheet.specs.Refusals.{Answer, granted, refused, refuse, after, Verdict, verdict_of}

pub record Numbers (V : Type 0) : Type 0 where
  pub nil : V
  pub is_zero : V → Bool
  pub is_sound : V → Bool
  pub may_divide : V → Bool

abbrev pub valued : {V M : Type 0} → Ops M → (V → M) → V → Numbers V
valued o mean nil = record {
  nil = nil;
  is_zero = λ v. o.is_zero (mean v);
  is_sound = λ v. o.is_sound (mean v);
  may_divide = λ v. may_divide o (mean v);
}

pub record Sheet (V : Type 0) : Type 0 where
  pub plan : Plan
  pub rows : List (Row V)

pub data Call (V : Type 0) : Type 0 where
  blank : Call V
  place : Placement V → Call V
  lift : ℕ → Call V
  set_value : ℕ → V → Call V

abbrev pub zero_row : {V : Type 0} → Numbers V → Row V
zero_row o = record { value = o.nil; start = o.nil; current = o.nil; voltage = o.nil }

abbrev pub takes_value : {V : Type 0} → Numbers V → Kind → V → Bool
takes_value o Resistor v = o.is_sound v && o.may_divide v
takes_value o Inductor v = o.is_sound v && o.may_divide v
takes_value o Capacitor v = o.is_sound v && o.may_divide v
takes_value o VoltageSource v = o.is_sound v
takes_value o CurrentSource v = o.is_sound v

abbrev pub takes_start : {V : Type 0} → Numbers V → Kind → V → Bool
takes_start o Resistor s = o.is_sound s && o.is_zero s
takes_start o Inductor s = o.is_sound s
takes_start o Capacitor s = o.is_sound s
takes_start o VoltageSource s = o.is_sound s && o.is_zero s
takes_start o CurrentSource s = o.is_sound s && o.is_zero s

abbrev pub first_row : {V : Type 0} → Numbers V → Kind → V → V → Row V
first_row o Resistor v s = record { value = v; start = s; current = o.nil; voltage = o.nil }
first_row o Inductor v s = record { value = v; start = s; current = s; voltage = o.nil }
first_row o Capacitor v s = record { value = v; start = s; current = o.nil; voltage = s }
first_row o VoltageSource v s = record { value = v; start = s; current = o.nil; voltage = o.nil }
first_row o CurrentSource v s = record { value = v; start = s; current = o.nil; voltage = o.nil }

abbrev pub known : Option Kind → Answer Kind
known None = refused (record { number = 5; words = [] })
known (Some k) = granted k

abbrev pub joining : (t h : ℕ) → Dec (t < 16) → Dec (h < 16) → Dec (t ≡ h) → Answer Ends
joining t h (yes a) (yes b) (no c) = granted (record { tail = t; head = h; tail_within = a; head_within = b; apart = c })
joining t h (yes a) (yes b) (yes c) = refused (record { number = 7; words = [] })
joining t h (yes a) (no b) c = refused (record { number = 6; words = [] })
joining t h (no a) b c = refused (record { number = 6; words = [] })

unfoldable pub drawn : ℕ → ℕ → Answer Ends
drawn t h = joining t h (dec_lt t 16) (dec_lt h 16) (ℕ_discrete t h)

abbrev pub admitted : {V : Type 0} → Numbers V → Placement V → Answer (Branch × Row V)
admitted o p =
    after (known (kind_numbered p.kind)) (λ k.
    after (drawn p.tail p.head) (λ e.
    refuse 8 (not (takes_value o k p.value))
    (refuse 9 (not (takes_start o k p.start))
    (granted (record { kind = k; ends = e }, first_row o k p.value p.start)))))

abbrev pub present : Option Branch → Answer Branch
present None = refused (record { number = 4; words = [] })
present (Some b) = granted b

-- 1 and 2, which every call on a place meets
abbrev pub on_place : {X : Type 0} → ℕ → ℕ → Answer X → Answer X
on_place n k rest = refuse 1 (not (n == 32)) (refuse 2 (nat_lt 31 k) rest)

abbrev pub blanked : {V : Type 0} → Numbers V → ℕ → Answer (Sheet V)
blanked o n = refuse 1 (not (n == 32)) (granted (record { plan = empty_plan; rows = replicate 32 (zero_row o) }))

abbrev pub placed : {V : Type 0} → Numbers V → ℕ → Placement V → Sheet V → Answer (Sheet V)
placed o n p s =
    on_place n p.number
    (refuse 3 (is_some (branch_at s.plan p.number))
    (after (admitted o p) (λ b.
    granted (record { plan = with_branch s.plan p.number (Some b.0); rows = slice_set s.rows p.number b.1 }))))

abbrev pub lifted : {V : Type 0} → Numbers V → ℕ → ℕ → Sheet V → Answer (Sheet V)
lifted o n k s =
    on_place n k
    (after (present (branch_at s.plan k)) (λ b.
    granted (record { plan = with_branch s.plan k None; rows = slice_set s.rows k (zero_row o) })))

-- the row with another value
abbrev pub revalued : {V : Type 0} → Row V → V → Row V
revalued r v = record { value = v; start = r.start; current = r.current; voltage = r.voltage }

abbrev pub value_set : {V : Type 0} → Numbers V → ℕ → ℕ → V → Sheet V → Answer (Sheet V)
value_set o n k v s =
    on_place n k
    (after (present (branch_at s.plan k)) (λ b.
    refuse 10 (not (is_source b.kind))
    (refuse 8 (not (takes_value o b.kind v))
    (granted (record { plan = s.plan; rows = slice_set s.rows k (revalued (slice_index_or s.rows k (zero_row o)) v) })))))

abbrev pub outcome : {V : Type 0} → Numbers V → ℕ → Call V → Sheet V → Answer (Sheet V)
outcome o n blank s = blanked o n
outcome o n (place p) s = placed o n p s
outcome o n (lift k) s = lifted o n k s
outcome o n (set_value k v) s = value_set o n k v s

abbrev pub left : {V : Type 0} → Sheet V → Answer (Sheet V) → Sheet V
left s (granted t) = t
left s (refused t) = s

-- A call of the program does what the outcome says: this verdict, and these a plan and rows after it.
pub record Does {V : Type 0} (o : Numbers V) (call : Call V) (plan : Plan) (rows : List (Row V)) (v : Verdict) (plan' : Plan) (rows' : List (Row V)) : Type 0 where
  pub answers : v ≡ verdict_of (outcome o (length rows) call (record { plan = plan; rows = rows }))
  pub plans : plan' ≡ (left (record { plan = plan; rows = rows }) (outcome o (length rows) call (record { plan = plan; rows = rows }))).plan
  pub tables : rows' ≡ (left (record { plan = plan; rows = rows }) (outcome o (length rows) call (record { plan = plan; rows = rows }))).rows
