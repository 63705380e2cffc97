-- What every story keeps: 32 places, 32 rows, and values of resistors, inductors and capacitors that are not zero. Assumes nothing.
use Rattle.std.proofs.Common.{◌≡◌, ℕ, ◌<◌, true, false, ◌≢◌, List, [], ◌∷◌, length, set, replicate, Some, None, Option, sym, refl, ap, ◌∙◌, subst, inl, inr, arith, length-set, get_or-set_other, get_or-set_same}
use lib.ListN.{length-replicate}
use Rattle.std.proofs.lemmas.Bool.{both_ways, and_parts, cases_eq}
use Rattle.arithmetic.specs.Ops.{Ops, Exact, may_divide}
use Rattle.sheet.specs.declared.branch.Branch.{Branch}
use Rattle.sheet.specs.declared.kind.Kind.{Kind}
use Rattle.sheet.specs.declared.kind.Kind.TheVariants.{Resistor, Inductor, Capacitor, VoltageSource, CurrentSource}
use Rattle.sheet.specs.declared.placement.Placement.{Placement}
use Rattle.sheet.specs.declared.plan.Plan.{Plan}
use Rattle.sheet.specs.declared.row.Row.{Row}
use Rattle.sheet.specs.Calls.{Sheet, blank, place, lift, set_value, zero_row, takes_value, first_row, left}
use Rattle.sheet.specs.Kinds.{is_source}
use Rattle.sheet.specs.Plans.{empty_plan, with_branch}
use Rattle.sheet.specs.Refusals.{Answer, granted, refused}
use Rattle.sheet.specs.Meanings.{meanings}
use Rattle.topology.specs.Trees.{tree_of}
use Rattle.stories.specs.Networks.{kind_at, is_passive}
use Rattle.stories.specs.Steps.{row_at, renewed_rows, TreeCall, step_result}
use Rattle.stories.specs.Stories.{StoryCall, on_sheet, step, answer_by, run_by, run}
use Rattle.stories.proofs.Trees.{Answers, by_the_call}
use Rattle.stories.proofs.Granting.{divides, step_went}
use Rattle.stories.proofs.Calls.{Placing, Setting, blank_went, placed_went, lifted_went, set_went, kind_with_same, kind_with_other, kind_empty, kind_there}
use Rattle.stories.proofs.Results.{renewed_long, renewed-value}

pub row_set_same : {M : Type 0} (o : Ops M) (rows : List (Row M)) (j : ℕ) (r : Row M) → length rows ≡ 32 → j < 32 → row_at o (set rows j r) j ≡ r
unfolding row_at
row_set_same o rows j r long h = get_or-set_same rows j r _ (omega arith)

pub row_set_other : {M : Type 0} (o : Ops M) (rows : List (Row M)) (j k : ℕ) (r : Row M) → k ≢ j → row_at o (set rows j r) k ≡ row_at o rows k
unfolding row_at
row_set_other o rows j k r d = get_or-set_other rows j k r _ d

pub record Kept {M : Type 0} (o : Ops M) (s : Sheet M) : Type 0 where
  pub places : length s.plan.places ≡ 32
  pub table : length s.rows ≡ 32
  pub values : (k : ℕ) → is_passive (kind_at s.plan k) ≡ true → (row_at o s.rows k).value ≡ o.nought → ⊥

passive_takes : {M : Type 0} (o : Ops M) (x : Kind) (v : M) → is_passive (Some x) ≡ true → takes_value (meanings o) x v ≡ true → may_divide o v ≡ true
passive_takes o Resistor v e t = (and_parts (o.is_sound v) (may_divide o v) t).1
passive_takes o Inductor v e t = (and_parts (o.is_sound v) (may_divide o v) t).1
passive_takes o Capacitor v e t = (and_parts (o.is_sound v) (may_divide o v) t).1
passive_takes o VoltageSource v e t = absurd (both_ways false refl e)
passive_takes o CurrentSource v e t = absurd (both_ways false refl e)

first-value : {M : Type 0} (o : Ops M) (x : Kind) (v s : M) → (first_row (meanings o) x v s).value ≡ v
first-value o Resistor v s = refl
first-value o Inductor v s = refl
first-value o Capacitor v s = refl
first-value o VoltageSource v s = refl
first-value o CurrentSource v s = refl

pub source_passive : (x : Kind) → is_source x ≡ true → is_passive (Some x) ≡ false
source_passive Resistor e = absurd (both_ways false refl e)
source_passive Inductor e = absurd (both_ways false refl e)
source_passive Capacitor e = absurd (both_ways false refl e)
source_passive VoltageSource e = refl
source_passive CurrentSource e = refl

pub blank_kept : {M : Type 0} (o : Ops M) → Kept o (record { plan = empty_plan; rows = replicate 32 (zero_row (meanings o)) })
blank_kept o = record {
  places = length-replicate {A = Option Branch} 32 None;
  table = length-replicate 32 (zero_row (meanings o));
  values = λ k e z. both_ways (is_passive (kind_at empty_plan k)) (ap is_passive (kind_empty k)) e;
}

module _ {M : Type 0} {o : Ops M} (laws : Exact o) where
  module _ (s : Sheet M) (kept : Kept o s) where
    place_kept : (p : Placement M) (t : Sheet M) → Placing (meanings o) p s t → Kept o t
    place_kept p t c = subst (Kept o) (sym c.is) (record {
      places = length-set _ _ _ ∙ kept.places;
      table = length-set _ _ _ ∙ kept.table;
      values = λ k e z. elim (cases_eq k p.number) [
        | inl i ↦ divides laws p.value (passive_takes o c.kind p.value
            (sym (ap is_passive (ap (kind_at _) i ∙ kind_with_same s.plan p.number _ kept.places c.low)) ∙ e) c.takes)
            (sym (ap (λ r. r.value) (ap (row_at o _) i ∙ row_set_same o s.rows p.number _ kept.table c.low) ∙ first-value o c.kind p.value p.start) ∙ z)
        | inr d ↦ kept.values k (sym (ap is_passive (kind_with_other s.plan p.number k _ d)) ∙ e) (sym (ap (λ r. r.value) (row_set_other o s.rows p.number k _ d)) ∙ z)
      ];
    })

    lift_kept : (j : ℕ) (t : Sheet M) → (j < 32) × (t ≡ record { plan = with_branch s.plan j None; rows = set s.rows j (zero_row (meanings o)) }) → Kept o t
    lift_kept j t c = subst (Kept o) (sym c.1) (record {
      places = length-set _ _ _ ∙ kept.places;
      table = length-set _ _ _ ∙ kept.table;
      values = λ k e z. elim (cases_eq k j) [
        | inl i ↦ both_ways _ (ap is_passive (ap (kind_at _) i ∙ kind_with_same s.plan j None kept.places c.0)) e
        | inr d ↦ kept.values k (sym (ap is_passive (kind_with_other s.plan j k None d)) ∙ e) (sym (ap (λ r. r.value) (row_set_other o s.rows j k _ d)) ∙ z)
      ];
    })

    set-kept : (j : ℕ) (v : M) (t : Sheet M) → Setting (meanings o) j v s t → Kept o t
    set-kept j v t c = subst (Kept o) (sym c.is) (record {
      places = kept.places;
      table = length-set _ _ _ ∙ kept.table;
      values = λ k e z. elim (cases_eq k j) [
        | inl i ↦ both_ways _ (ap is_passive (ap (kind_at s.plan) i ∙ kind_there s.plan j c.branch c.low c.there) ∙ source_passive c.branch.kind c.source) e
        | inr d ↦ kept.values k e (sym (ap (λ r. r.value) (row_set_other o s.rows j k _ d)) ∙ z)
      ];
    })

    stepped_kept : (h : M) (t : Sheet M) → t ≡ record { plan = s.plan; rows = renewed_rows o s.plan s.rows (step_result o h s) } → Kept o t
    stepped_kept h t e = subst (Kept o) (sym e) (record {
      places = kept.places;
      table = renewed_long o s.plan s.rows kept.table (step_result o h s);
      values = λ k i z. kept.values k i (sym (renewed-value o s.plan s.rows kept.table (step_result o h s) k) ∙ z);
    })

    pub call_kept : (a : TreeCall) → ((p : Plan) → Answers p (a p)) → (c : StoryCall M) (x : Answer (Sheet M)) → answer_by o a c s ≡ x → Kept o (left s x)
    call_kept a says c (refused r) e = kept
    call_kept a says (on_sheet n blank) (granted t) e = subst (Kept o) (sym (blank_went (meanings o) n s t e)) (blank_kept o)
    call_kept a says (on_sheet n (place p)) (granted t) e = place_kept p t (placed_went (meanings o) n s t p e)
    call_kept a says (on_sheet n (lift j)) (granted t) e = lift_kept j t (lifted_went (meanings o) n s t j e)
    call_kept a says (on_sheet n (set_value j v)) (granted t) e = set-kept j v t (set_went (meanings o) n s t j v e)
    call_kept a says (step n area h) (granted t) e = stepped_kept h t (step_went o a says n area h s t e).1.1.1

  pub kept_by : (a : TreeCall) → ((p : Plan) → Answers p (a p)) → (cs : List (StoryCall M)) → Kept o (run_by o a cs)
  unfolding run_by
  kept_by a says [] = blank_kept o
  kept_by a says (c ∷ cs) = call_kept (run_by o a cs) (kept_by a says cs) a says c (answer_by o a c (run_by o a cs)) refl

  pub run-kept : (cs : List (StoryCall M)) → Kept o (run o cs)
  unfolding run
  run-kept = kept_by tree_of by_the_call
