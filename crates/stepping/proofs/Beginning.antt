-- The calls on a sheet are the calls of a story. Assumes nothing.
use Rattle.std.proofs.Common.{◌≡◌, ℕ, Bool, true, false, not, eqb, List, [], length, sym, refl, ap, ◌∙◌, ap₂}
use Rattle.arithmetic.specs.Ops.{Ops}
use Rattle.sheet.specs.declared.plan.Plan.{Plan}
use Rattle.sheet.specs.declared.row.Row.{Row}
use Rattle.sheet.specs.Calls.{Sheet, Call, blank, place, lift, set_value, outcome, left}
use Rattle.sheet.specs.Meanings.{meanings}
use Rattle.sheet.specs.Refusals.{Answer, granted, refused, refuse, pass, verdict_of}
use Rattle.stories.specs.Stories.{blank_sheet, run}
use Rattle.stepping.specs.Telling.{CallsTellStories}

-- a blank that is granted
blank_is : {X : Type 0} (b : Bool) (s : Sheet X) (x : Sheet X) → pass ≡ verdict_of (refuse 1 b (granted x)) → left s (refuse 1 b (granted x)) ≡ x
blank_is true s x e = cc
blank_is false s x e = refl

first_refused : {X : Type 0} (b : Bool) (rest : Answer X) → b ≡ false → refuse 1 (not b) rest ≡ refused (record { number = 1; words = [] })
first_refused b rest e = ap (λ b. refuse 1 (not b) rest) e

module _ {M : Type 0} (o : Ops M) where
  -- 1 comes first
  wrong_table : (c : Call M) (n : ℕ) (s : Sheet M) → eqb n 32 ≡ false → outcome (meanings o) n c s ≡ refused (record { number = 1; words = [] })
  wrong_table blank n s e = first_refused (eqb n 32) _ e
  wrong_table (place p) n s e = first_refused (eqb n 32) _ e
  wrong_table (lift k) n s e = first_refused (eqb n 32) _ e
  wrong_table (set_value k v) n s e = first_refused (eqb n 32) _ e

  pub calls_tell_stories : CallsTellStories o
  unfolding run
  calls_tell_stories = record {
    begins = λ s s' d.
        sym (blank_is (not (eqb (length s.rows) 32)) s (blank_sheet o) d.answers)
        ∙ sym (ap₂ (λ (p : Plan) (rs : List (Row M)). record { plan = p; rows = rs }) d.plans d.tables);
    goes_on = λ cs c s s' v e d.
        ap (λ r. left r (outcome (meanings o) (length s.rows) c r)) e
        ∙ sym (ap₂ (λ (p : Plan) (rs : List (Row M)). record { plan = p; rows = rs }) d.plans d.tables);
    elsewhere = λ cs c plan plan' table table' v w d.
        let r = wrong_table c (length table) (record { plan = plan; rows = table }) w in (
          d.plans ∙ ap (λ a. (left (record { plan = plan; rows = table }) a).plan) r,
          d.tables ∙ ap (λ a. (left (record { plan = plan; rows = table }) a).rows) r,
          ap (left (run o cs)) (wrong_table c (length table) (run o cs) w),
        );
  }
