-- One step of length 1, from what the call of a step promises.
use Rattle.std.proofs.Common.{◌≡◌, ℕ, Bool, true, false, not, ◌&&◌, ◌||◌, eqb, ltb, List, map, length, replicate, Option, sym, refl, ap, ◌∙◌}
use Rattle.std.proofs.lemmas.List.{map-id}
use lib.Ieee.{Float}
use Rattle.arithmetic.specs.Binary64.{binary64_ops}
use Rattle.arithmetic.specs.Ops.{Ops, may_divide}
use Rattle.cards.specs.Following.{blank_sheet}
use Rattle.cards.specs.Reading.{Named, State, cards_read}
use Rattle.sheet.specs.declared.plan.Plan.{Plan}
use Rattle.sheet.specs.declared.row.Row.{Row}
use Rattle.sheet.specs.Calls.{Sheet, left, zero_row}
use Rattle.sheet.specs.Meanings.{meant_row, meant_sheet, meanings}
use Rattle.sheet.specs.Plans.{empty_plan}
use Rattle.sheet.specs.Refusals.{Answer, granted, refused, refuse, after, Told, pass, fail, verdict_of}
use Rattle.stepping.specs.Calls.{StepDoes}
use Rattle.stories.specs.Steps.{renewed_rows, solving, step_parts, step_result, unsound, stepped}
use Rattle.topology.specs.Trees.{tree_of}
use Rattle.printed_key.specs.Blocks.{one_step}

-- what is read onto an empty plan and fresh rows
pub read_from_blank :
    {M : Type 0} (o : Ops M) (input : List ℕ) (st : State M) (p : Plan) (rows : List (Row M)) →
    st ≡ cards_read o input (record { plan = p; rows = rows }) → p ≡ empty_plan → rows ≡ replicate 32 (zero_row (meanings o)) → st ≡ cards_read o input (blank_sheet o)
read_from_blank o input st p rows r e f =
    r ∙ ap (λ x. cards_read o input (record { plan = x; rows = rows })) e ∙ ap (λ x. cards_read o input (record { plan = empty_plan; rows = x })) f

module _ {M : Type 0} where
  kept :
      (s : Sheet M) (rows : List (Row M)) (a b c d : Bool) (t : Answer ℕ) →
      (left s (refuse 1 a (refuse 11 b (after t (λ _. refuse 14 c (refuse 15 d (granted (record { plan = s.plan; rows = rows })))))))).plan ≡ s.plan
  kept s rows true b c d t = refl
  kept s rows false true c d t = refl
  kept s rows false false c d (refused t) = refl
  kept s rows false false true d (granted w) = refl
  kept s rows false false false true (granted w) = refl
  kept s rows false false false false (granted w) = refl

  pub plan_kept : (o : Ops M) (s : Sheet M) → (left s (one_step o s)).plan ≡ s.plan
  plan_kept o s =
      kept s (renewed_rows o s.plan s.rows (step_result o o.one s)) (not (eqb 32 32) || ltb 304 304) (not (o.is_sound o.one && may_divide o o.one))
      (not (solving o (step_parts o o.one s)).ok) (unsound o s.plan (step_result o o.one s)) (tree_of s.plan)

  passed : (s : Sheet M) (a : Answer (Sheet M)) → pass ≡ verdict_of a → a ≡ granted (left s a)
  passed s (granted t) e = refl
  passed s (refused t) e = cc

  failed : (a : Answer (Sheet M)) (t : Told) → fail t ≡ verdict_of a → refused t ≡ a
  failed (granted u) t e = cc
  failed (refused u) t e = cc

module _ {V M : Type 0} (o : Ops M) (mean : V → M) (nil : V) (plan : Plan) (rows : List (Row V)) (h : V) (work : List V) (rows' : List (Row V)) (work' : List V) where
  abbrev before : Sheet M
  before = meant_sheet mean (record { plan = plan; rows = rows })

  same_step : length rows ≡ 32 → length work ≡ 304 → mean h ≡ o.one → stepped o (length rows) (length work) (mean h) before ≡ one_step o before
  same_step n a e =
      ap (λ x. stepped o x (length work) (mean h) before) n ∙ ap (λ x. stepped o 32 x (mean h) before) a ∙ ap (λ x. stepped o 32 304 x before) e

  pub step-passed :
      length rows ≡ 32 → length work ≡ 304 → mean h ≡ o.one → StepDoes o mean nil plan rows h work pass rows' work' →
      granted (record { plan = plan; rows = map (meant_row mean) rows' }) ≡ one_step o before
  step-passed n a e d =
      let q = same_step n a e in
      let r : map (meant_row mean) rows' ≡ (left before (one_step o before)).rows = d.tables ∙ ap (λ x. (left before x).rows) q in
      ap (λ rs. granted (record { plan = plan; rows = rs })) r
      ∙ ap (λ p. granted (record { plan = p; rows = (left before (one_step o before)).rows })) (sym (plan_kept o before))
      ∙ sym (passed before (one_step o before) (d.answers ∙ ap verdict_of q))

  pub step-failed :
      (t : Told) → length rows ≡ 32 → length work ≡ 304 → mean h ≡ o.one → StepDoes o mean nil plan rows h work (fail t) rows' work' → refused t ≡ one_step o before
  step-failed t n a e d = failed (one_step o before) t (d.answers ∙ ap verdict_of (same_step n a e))

module _ (nil : Float) (plan : Plan) (rows : List (Row Float)) (h : Float) (work : List Float) (rows' : List (Row Float)) (work' : List Float) where
  abbrev at_start : List (Row Float) → Sheet Float
  at_start r = record { plan = plan; rows = r }

  pub float-passed :
      length rows ≡ 32 → length work ≡ 304 → h ≡ binary64_ops.one → StepDoes binary64_ops (λ x. x) nil plan rows h work pass rows' work' →
      granted (at_start rows') ≡ one_step binary64_ops (at_start rows)
  float-passed n a e d =
      ap (λ r. granted (at_start r)) (sym (map-id rows'))
      ∙ step-passed binary64_ops (λ x. x) nil plan rows h work rows' work' n a e d
      ∙ ap (λ r. one_step binary64_ops (at_start r)) (map-id rows)

  pub float-failed :
      (t : Told) → length rows ≡ 32 → length work ≡ 304 → h ≡ binary64_ops.one → StepDoes binary64_ops (λ x. x) nil plan rows h work (fail t) rows' work' →
      refused t ≡ one_step binary64_ops (at_start rows)
  float-failed t n a e d =
      step-failed binary64_ops (λ x. x) nil plan rows h work rows' work' t n a e d
      ∙ ap (λ r. one_step binary64_ops (at_start r)) (map-id rows)

-- the sheet that reading floats leaves: a float is its own meaning
pub float_state : (f : Option Named) (p : Plan) (rows : List (Row Float)) → ◌≡◌ {A = State Float} (record { fault = f; sheet = record { plan = p; rows = map (meant_row (λ x. x)) rows } }) (record { fault = f; sheet = record { plan = p; rows = rows } })
float_state f p rows = ap (λ r. record { fault = f; sheet = record { plan = p; rows = r } }) (map-id rows)
