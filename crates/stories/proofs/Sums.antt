-- Charge and flux: value × change of a branch's figure is the sum of step length × the other figure. Assumes nothing.
use Rattle.std.proofs.Common.{◌≡◌, ℕ, ◌<◌, true, eqb, List, [], ◌∷◌, set, Some, None, Option, sym, refl, ap, ◌∙◌, subst, ap₂, inl, inr, arith}
use Rattle.std.proofs.lemmas.Bool.{both_ways, cases_eq, cond-true, cond-false, eq-eqb, ne_eqb}
use Rattle.arithmetic.specs.Ops.{Ops, Exact}
use Rattle.sheet.specs.declared.kind.Kind.{Kind}
use Rattle.sheet.specs.declared.kind.Kind.TheVariants.{Inductor, Capacitor}
use Rattle.sheet.specs.declared.placement.Placement.{Placement}
use Rattle.sheet.specs.declared.plan.Plan.{Plan}
use Rattle.sheet.specs.declared.row.Row.{Row}
use Rattle.sheet.specs.Calls.{Sheet, blank, place, lift, set_value, zero_row, first_row, left}
use Rattle.sheet.specs.Plans.{empty_plan, with_branch}
use Rattle.sheet.specs.Refusals.{Answer, granted, refused}
use Rattle.linear.proofs.Ring.{ring}
use Rattle.sheet.specs.Meanings.{meanings}
use Rattle.stories.specs.Networks.{kind_at, is_passive}
use Rattle.stories.specs.Steps.{row_at, TreeCall, stepped_by, step_result}
use Rattle.stories.specs.Stories.{StoryCall, on_sheet, step, answer_by, run_by, new_start, new_sum, start_by, sum_by}
use Rattle.stories.specs.Laws.{Law}
use Rattle.stories.specs.Theorem.{SumsBy}
use Rattle.stories.proofs.Networks.{kind_placed}
use Rattle.stories.proofs.Trees.{Answers}
use Rattle.stories.proofs.Granting.{step_went, step_live}
use Rattle.stories.proofs.Calls.{Placing, Setting, blank_went, placed_went, lifted_went, set_went, kind_with_same, kind_with_other, kind_empty, kind_there}
use Rattle.stories.proofs.Results.{renewed-value}
use Rattle.stories.proofs.Sheets.{row_set_same, row_set_other, Kept, source_passive, kept_by}

-- a kind whose branches sum up: the figure that is kept, and the one that is summed
record Summing {M : Type 0} (o : Ops M) (x : Kind) (kept flow : Row M → M) : Type 0 where
  passive : is_passive (Some x) ≡ true
  starts : (v s : M) → kept (first_row (meanings o) x v s) ≡ s
  law : (h : M) (r t : Row M) → Law o h (Some x) r t.current t.voltage → o.mul r.value (o.sub (kept t) (kept r)) ≡ o.mul h (flow t)

different : {A : Type 0} (x : Kind) (f : Option Kind) → f ≡ None → f ≡ Some x → A
different x f a b = let z : ◌≡◌ {A = ℕ} 0 1 = cc in absurd (omega arith)

some_same : (x y : Kind) → Some x ≡ Some y → x ≡ y
some_same x y e = cc

module _ {M : Type 0} {o : Ops M} (laws : Exact o) (a : TreeCall) (says : (p : Plan) → Answers p (a p)) (x : Kind) (kept flow : Row M → M) (rule : Summing o x kept flow) (k : ℕ) where
  -- the law of sums of one sheet, with a start and a sum
  abbrev Summed : Sheet M → M → M → Type 0
  Summed s start sum = kind_at s.plan k ≡ Some x → o.mul (row_at o s.rows k).value (o.sub (kept (row_at o s.rows k)) start) ≡ sum

  -- a sheet that differs elsewhere
  elsewhere : (s t : Sheet M) (start sum : M) → kind_at t.plan k ≡ kind_at s.plan k → row_at o t.rows k ≡ row_at o s.rows k → Summed s start sum → Summed t start sum
  elsewhere s t start sum a b law e = ap (λ (r : Row M). o.mul r.value (o.sub (kept r) start)) b ∙ law (sym a ∙ e)

  unmoved : (v a : M) → o.mul v (o.sub a a) ≡ o.nought
  unmoved v a = simp (ring, laws)

  by_way : (v a b c : M) → o.mul v (o.sub a c) ≡ o.add (o.mul v (o.sub b c)) (o.mul v (o.sub a b))
  by_way v a b c = simp (ring, laws)

  module _ (s : Sheet M) (known : Kept o s) (start sum : M) (before : Summed s start sum) where
    place_sum : (n : ℕ) (p : Placement M) (t : Sheet M) → Placing (meanings o) p s t → Summed t (new_start k (on_sheet n (place p)) start (granted t)) (new_sum o flow k (on_sheet n (place p)) sum (granted t))
    place_sum n p t c = elim (cases_eq k p.number) [
      | inl i ↦ λ e.
          let kind_is : c.kind ≡ x = some_same c.kind x (sym (ap₂ kind_at (ap (λ t. t.plan) c.is) i ∙ kind_with_same s.plan p.number _ known.places c.low) ∙ e) in
          let row_is : row_at o t.rows k ≡ first_row (meanings o) x p.value p.start = ap₂ (row_at o) (ap (λ t. t.rows) c.is) i ∙ row_set_same o s.rows p.number _ known.table c.low ∙ ap (λ x. first_row (meanings o) x p.value p.start) kind_is in
          let same = eq-eqb p.number k (sym i) in
          ap₂ (λ (r : Row M) b. o.mul r.value (o.sub (kept r) b)) row_is (cond-true (eqb p.number k) p.start start same)
          ∙ ap (λ a. o.mul (first_row (meanings o) x p.value p.start).value (o.sub a p.start)) (rule.starts p.value p.start)
          ∙ unmoved _ p.start ∙ sym (cond-true (eqb p.number k) o.nought sum same)
      | inr d ↦ λ e.
          let other = ne_eqb p.number k (λ i. d (sym i)) in
          ap (λ b. o.mul (row_at o t.rows k).value (o.sub (kept (row_at o t.rows k)) b)) (cond-false (eqb p.number k) p.start start other)
          ∙ elsewhere s t start sum (ap (λ (t : Sheet M). kind_at t.plan k) c.is ∙ kind_with_other s.plan p.number k _ d) (ap (λ (t : Sheet M). row_at o t.rows k) c.is ∙ row_set_other o s.rows p.number k _ d) before e
          ∙ sym (cond-false (eqb p.number k) o.nought sum other)
    ]

    lift_sum : (j : ℕ) (t : Sheet M) → (j < 32) × (t ≡ record { plan = with_branch s.plan j None; rows = set s.rows j (zero_row (meanings o)) }) → Summed t start sum
    lift_sum j t c = elim (cases_eq k j) [
      | inl i ↦ λ e. different x (kind_at t.plan k) (ap₂ kind_at (ap (λ t. t.plan) c.1) i ∙ kind_with_same s.plan j None known.places c.0) e
      | inr d ↦ elsewhere s t start sum (ap (λ (t : Sheet M). kind_at t.plan k) c.1 ∙ kind_with_other s.plan j k None d) (ap (λ (t : Sheet M). row_at o t.rows k) c.1 ∙ row_set_other o s.rows j k _ d) before
    ]

    set_sum : (j : ℕ) (v : M) (t : Sheet M) → Setting (meanings o) j v s t → Summed t start sum
    set_sum j v t c = elim (cases_eq k j) [
      | inl i ↦ λ e. absurd (both_ways (is_passive (Some x)) (sym (ap is_passive (sym (ap₂ kind_at (ap (λ t. t.plan) c.is) i ∙ kind_there s.plan j c.branch c.low c.there) ∙ e)) ∙ source_passive c.branch.kind c.source) rule.passive)
      | inr d ↦ elsewhere s t start sum (ap (λ (t : Sheet M). kind_at t.plan k) c.is) (ap (λ (t : Sheet M). row_at o t.rows k) c.is ∙ row_set_other o s.rows j k _ d) before
    ]

    step_sum : (n area : ℕ) (h : M) (t : Sheet M) → stepped_by o a n area h s ≡ granted t → Summed t start (o.add sum (o.mul h (flow (row_at o t.rows k))))
    step_sum n area h t g e =
        let f = step_went o a says n area h s t g in
        let kind_is : kind_at s.plan k ≡ Some x = sym (ap (λ (t : Sheet M). kind_at t.plan k) f.1.1.1) ∙ e in
        let live = step_live laws s known.table known.values h f.0 a says n area t g in
        let law = rule.law h (row_at o s.rows k) (row_at o t.rows k) (subst (λ q. Law o h q (row_at o s.rows k) (row_at o t.rows k).current (row_at o t.rows k).voltage) kind_is (live.branches k (kind_placed s.plan k x kind_is))) in
        let value_is : (row_at o t.rows k).value ≡ (row_at o s.rows k).value = ap (λ (t : Sheet M). (row_at o t.rows k).value) f.1.1.1 ∙ renewed-value o s.plan s.rows known.table (step_result o h s) k in
        ap (λ v. o.mul v (o.sub (kept (row_at o t.rows k)) start)) value_is
        ∙ by_way (row_at o s.rows k).value (kept (row_at o t.rows k)) (kept (row_at o s.rows k)) start
        ∙ ap₂ o.add (before kind_is) law

    call_sum : (c : StoryCall M) (x : Answer (Sheet M)) → answer_by o a c s ≡ x → Summed (left s x) (new_start k c start x) (new_sum o flow k c sum x)
    call_sum (on_sheet n blank) (refused r) e = before
    call_sum (on_sheet n (place p)) (refused r) e = before
    call_sum (on_sheet n (lift j)) (refused r) e = before
    call_sum (on_sheet n (set_value j v)) (refused r) e = before
    call_sum (step n area h) (refused r) e = before
    call_sum (on_sheet n blank) (granted t) e = λ is. different x (kind_at t.plan k) (ap (λ (t : Sheet M). kind_at t.plan k) (blank_went (meanings o) n s t e) ∙ kind_empty k) is
    call_sum (on_sheet n (place p)) (granted t) e = place_sum n p t (placed_went (meanings o) n s t p e)
    call_sum (on_sheet n (lift j)) (granted t) e = lift_sum j t (lifted_went (meanings o) n s t j e)
    call_sum (on_sheet n (set_value j v)) (granted t) e = set_sum j v t (set_went (meanings o) n s t j v e)
    call_sum (step n area h) (granted t) e = step_sum n area h t e

  run-sum : (cs : List (StoryCall M)) → Summed (run_by o a cs) (start_by o a cs k) (sum_by o a flow cs k)
  unfolding run_by start_by sum_by
  run-sum [] = λ e. different x (kind_at empty_plan k) (kind_empty k) e
  run-sum (c ∷ cs) = call_sum (run_by o a cs) (kept_by laws a says cs) (start_by o a cs k) (sum_by o a flow cs k) (run-sum cs) c (answer_by o a c (run_by o a cs)) refl

pub sums : {M : Type 0} {o : Ops M} (laws : Exact o) (a : TreeCall) → ((p : Plan) → Answers p (a p)) → (cs : List (StoryCall M)) (k : ℕ) → SumsBy o a cs k
sums {o = o} laws a says cs k = record {
  charge = run-sum laws a says Capacitor (λ r. r.voltage) (λ r. r.current) (record { passive = refl; starts = λ v s. refl; law = λ h r t e. sym e }) k cs;
  flux = run-sum laws a says Inductor (λ r. r.current) (λ r. r.voltage) (record { passive = refl; starts = λ v s. refl; law = λ h r t e. e }) k cs;
}
