-- A call on values, taken by meaning, is the call on their meanings. Assumes nothing.
use Rattle.std.proofs.Common.{◌≡◌, ℕ, zero, suc, Bool, true, false, not, eqb, ltb, List, ◌∷◌, map, length, get_or, set, replicate, is_some, Some, None, Option, sym, refl, ap, ◌∙◌}
use Rattle.std.proofs.Math.ListN.{get_or-map}
use Rattle.std.proofs.lemmas.List.{map-set, length-map}
use Rattle.arithmetic.specs.Ops.{Ops}
use Rattle.sheet.specs.declared.branch.Branch.{Branch}
use Rattle.sheet.specs.declared.ends.Ends.{Ends}
use Rattle.sheet.specs.declared.kind.Kind.{Kind}
use Rattle.sheet.specs.declared.kind.Kind.TheVariants.{Resistor, Inductor, Capacitor, VoltageSource, CurrentSource}
use Rattle.sheet.specs.declared.placement.Placement.{Placement}
use Rattle.sheet.specs.declared.plan.Plan.{Plan}
use Rattle.sheet.specs.declared.row.Row.{Row}
use Rattle.sheet.specs.Calls.{Numbers, valued, Sheet, Call, blank, place, lift, set_value, zero_row, takes_value, takes_start, first_row, known, drawn, admitted, present, on_place, revalued, outcome, left, Does}
use Rattle.sheet.specs.Kinds.{kind_numbered, is_source}
use Rattle.sheet.specs.Plans.{empty_plan, branch_at, with_branch}
use Rattle.sheet.specs.Refusals.{Answer, granted, refused, refuse, after, Verdict, verdict_of}
use Rattle.sheet.specs.Meanings.{meanings, meant_row, meant_placement, meant_sheet, meant_call, meant_answer}

map-replicate : {X Y : Type 0} (f : X → Y) (n : ℕ) (x : X) → replicate n (f x) ≡ map f (replicate n x)
map-replicate f zero x = refl
map-replicate f (suc n) x = ap (λ l. f x ∷ l) (map-replicate f n x)

module _ {V M : Type 0} (o : Ops M) (mean : V → M) (nil : V) where
  abbrev values : Numbers V
  values = valued o mean nil

  -- meanings, with the zero that the values have
  abbrev means : Numbers M
  means = valued o (λ m. m) (mean nil)

  -- an admission by meaning
  abbrev meant_branch : Branch × Row V → Branch × Row M
  meant_branch b = (b.0, meant_row mean b.1)

  abbrev meant_admission : Answer (Branch × Row V) → Answer (Branch × Row M)
  meant_admission (granted b) = granted (meant_branch b)
  meant_admission (refused t) = refused t

  two : (s t : Bool) (b : Branch × Row V) → refuse 8 s (refuse 9 t (granted (meant_branch b))) ≡ meant_admission (refuse 8 s (refuse 9 t (granted b)))
  two true t b = refl
  two false true b = refl
  two false false b = refl

  abbrev rest : Placement V → Kind → Ends → Answer (Branch × Row V)
  rest p k e =
      refuse 8 (not (takes_value values k p.value))
      (refuse 9 (not (takes_start values k p.start))
      (granted (record { kind = k; ends = e }, first_row values k p.value p.start)))

  abbrev rest_meant : Placement M → Kind → Ends → Answer (Branch × Row M)
  rest_meant p k e =
      refuse 8 (not (takes_value means k p.value))
      (refuse 9 (not (takes_start means k p.start))
      (granted (record { kind = k; ends = e }, first_row means k p.value p.start)))

  rest_same : (p : Placement V) (k : Kind) (e : Ends) → rest_meant (meant_placement mean p) k e ≡ meant_admission (rest p k e)
  rest_same p Resistor e = two (not (takes_value values Resistor p.value)) (not (takes_start values Resistor p.start)) (record { kind = Resistor; ends = e }, first_row values Resistor p.value p.start)
  rest_same p Inductor e = two (not (takes_value values Inductor p.value)) (not (takes_start values Inductor p.start)) (record { kind = Inductor; ends = e }, first_row values Inductor p.value p.start)
  rest_same p Capacitor e = two (not (takes_value values Capacitor p.value)) (not (takes_start values Capacitor p.start)) (record { kind = Capacitor; ends = e }, first_row values Capacitor p.value p.start)
  rest_same p VoltageSource e = two (not (takes_value values VoltageSource p.value)) (not (takes_start values VoltageSource p.start)) (record { kind = VoltageSource; ends = e }, first_row values VoltageSource p.value p.start)
  rest_same p CurrentSource e = two (not (takes_value values CurrentSource p.value)) (not (takes_start values CurrentSource p.start)) (record { kind = CurrentSource; ends = e }, first_row values CurrentSource p.value p.start)

  ended : (p : Placement V) (k : Kind) (a : Answer Ends) → after a (rest_meant (meant_placement mean p) k) ≡ meant_admission (after a (rest p k))
  ended p k (granted e) = rest_same p k e
  ended p k (refused t) = refl

  kinded : (p : Placement V) (a : Answer Kind) → after a (λ k. after (drawn p.tail p.head) (rest_meant (meant_placement mean p) k)) ≡ meant_admission (after a (λ k. after (drawn p.tail p.head) (rest p k)))
  kinded p (granted k) = ended p k (drawn p.tail p.head)
  kinded p (refused t) = refl

  pub admitted_meant : (p : Placement V) → admitted means (meant_placement mean p) ≡ meant_admission (admitted values p)
  admitted_meant p = kinded p (known (kind_numbered p.kind))

  -- refusals stay what they are
  on_place_lem : (n k : ℕ) (r : Answer (Sheet V)) (r' : Answer (Sheet M)) → r' ≡ meant_answer mean r → on_place n k r' ≡ meant_answer mean (on_place n k r)
  on_place_lem n k r r' e = go (not (eqb n 32)) (ltb 31 k)
    where
      go : (s t : Bool) → refuse 1 s (refuse 2 t r') ≡ meant_answer mean (refuse 1 s (refuse 2 t r))
      go true t = refl
      go false true = refl
      go false false = e

  refused_or : (n : ℕ) (t : Bool) (r : Answer (Sheet V)) (r' : Answer (Sheet M)) → r' ≡ meant_answer mean r → refuse n t r' ≡ meant_answer mean (refuse n t r)
  refused_or n true r r' e = refl
  refused_or n false r r' e = e

  stored : (s : Sheet V) (k : ℕ) (b : Option Branch) (r : Row V)
      → granted (record { plan = with_branch s.plan k b; rows = set (map (meant_row mean) s.rows) k (meant_row mean r) })
      ≡ meant_answer mean (granted (record { plan = with_branch s.plan k b; rows = set s.rows k r }))
  stored s k b r = ap (λ l. granted (record { plan = with_branch s.plan k b; rows = l })) (sym (map-set (meant_row mean) s.rows k r))

  put : (s : Sheet V) (k : ℕ) (a : Answer (Branch × Row V))
      → after (meant_admission a) (λ b. granted (record { plan = with_branch s.plan k (Some b.0); rows = set (map (meant_row mean) s.rows) k b.1 }))
      ≡ meant_answer mean (after a (λ b. granted (record { plan = with_branch s.plan k (Some b.0); rows = set s.rows k b.1 })))
  put s k (granted b) = stored s k (Some b.0) b.1
  put s k (refused t) = refl

  taken : (s : Sheet V) (k : ℕ) (a : Answer Branch)
      → after a (λ b. granted (record { plan = with_branch s.plan k None; rows = set (map (meant_row mean) s.rows) k (zero_row means) }))
      ≡ meant_answer mean (after a (λ b. granted (record { plan = with_branch s.plan k None; rows = set s.rows k (zero_row values) })))
  taken s k (granted b) = stored s k None (zero_row values)
  taken s k (refused t) = refl

  changed : (s : Sheet V) (k : ℕ) (v : V)
      → granted (record { plan = s.plan; rows = set (map (meant_row mean) s.rows) k (revalued (get_or (map (meant_row mean) s.rows) k (zero_row means)) (mean v)) })
      ≡ meant_answer mean (granted (record { plan = s.plan; rows = set s.rows k (revalued (get_or s.rows k (zero_row values)) v) }))
  changed s k v =
      ap (λ r. granted (record { plan = s.plan; rows = set (map (meant_row mean) s.rows) k (revalued r (mean v)) })) (get_or-map (meant_row mean) s.rows k (zero_row values))
      ∙ ap (λ l. granted (record { plan = s.plan; rows = l })) (sym (map-set (meant_row mean) s.rows k (revalued (get_or s.rows k (zero_row values)) v)))

  takes_same : (k : Kind) (v : V) → takes_value means k (mean v) ≡ takes_value values k v
  takes_same Resistor v = refl
  takes_same Inductor v = refl
  takes_same Capacitor v = refl
  takes_same VoltageSource v = refl
  takes_same CurrentSource v = refl

  given : (s : Sheet V) (k : ℕ) (v : V) (a : Answer Branch)
      → after a (λ b. refuse 10 (not (is_source b.kind)) (refuse 8 (not (takes_value means b.kind (mean v)))
      (granted (record { plan = s.plan; rows = set (map (meant_row mean) s.rows) k (revalued (get_or (map (meant_row mean) s.rows) k (zero_row means)) (mean v)) }))))
      ≡ meant_answer mean (after a (λ b. refuse 10 (not (is_source b.kind)) (refuse 8 (not (takes_value values b.kind v))
      (granted (record { plan = s.plan; rows = set s.rows k (revalued (get_or s.rows k (zero_row values)) v) })))))
  given s k v (granted b) =
      refused_or 10 (not (is_source b.kind)) _ _
      (ap (λ t. refuse 8 (not t) (granted (record { plan = s.plan; rows = set (map (meant_row mean) s.rows) k (revalued (get_or (map (meant_row mean) s.rows) k (zero_row means)) (mean v)) }))) (takes_same b.kind v)
      ∙ refused_or 8 (not (takes_value values b.kind v)) _ _ (changed s k v))
  given s k v (refused t) = refl

  outcome_same : (n : ℕ) (call : Call V) (s : Sheet V) → outcome means n (meant_call mean call) (meant_sheet mean s) ≡ meant_answer mean (outcome values n call s)
  outcome_same n blank s =
      refused_or 1 (not (eqb n 32)) _ _ (ap (λ l. granted (record { plan = empty_plan; rows = l })) (map-replicate (meant_row mean) 32 (zero_row values)))
  outcome_same n (place p) s =
      on_place_lem n p.number _ _ (refused_or 3 (is_some (branch_at s.plan p.number)) _ _
      (ap (λ a. after a (λ b. granted (record { plan = with_branch s.plan p.number (Some b.0); rows = set (map (meant_row mean) s.rows) p.number b.1 }))) (admitted_meant p)
      ∙ put s p.number (admitted values p)))
  outcome_same n (lift k) s = on_place_lem n k _ _ (taken s k (present (branch_at s.plan k)))
  outcome_same n (set_value k v) s = on_place_lem n k _ _ (given s k v (present (branch_at s.plan k)))

  verdict_same : (a : Answer (Sheet V)) → verdict_of a ≡ verdict_of (meant_answer mean a)
  verdict_same (granted s) = refl
  verdict_same (refused t) = refl

  left_same : (s : Sheet V) (a : Answer (Sheet V)) → meant_sheet mean (left s a) ≡ left (meant_sheet mean s) (meant_answer mean a)
  left_same s (granted t) = refl
  left_same s (refused t) = refl

  -- the zero of the values means nought
  module _ (zero_is : mean nil ≡ o.nought) where
    pub outcome_meant : (n : ℕ) (call : Call V) (s : Sheet V)
        → outcome (meanings o) n (meant_call mean call) (meant_sheet mean s) ≡ meant_answer mean (outcome (valued o mean nil) n call s)
    outcome_meant n call s =
        ap (λ z. outcome (valued o (λ m. m) z) n (meant_call mean call) (meant_sheet mean s)) (sym zero_is) ∙ outcome_same n call s

    module _ {call : Call V} {plan plan' : Plan} {rows rows' : List (Row V)} {v : Verdict} (d : Does (valued o mean nil) call plan rows v plan' rows') where
      abbrev before : Sheet V
      before = record { plan = plan; rows = rows }

      abbrev answer : Answer (Sheet V)
      answer = outcome (valued o mean nil) (length rows) call before

      answered : meant_answer mean answer ≡ outcome (meanings o) (length (map (meant_row mean) rows)) (meant_call mean call) (meant_sheet mean before)
      answered =
          sym (outcome_meant (length rows) call before)
          ∙ ap (λ n. outcome (meanings o) n (meant_call mean call) (meant_sheet mean before)) (sym (length-map rows (meant_row mean)))

      leaves : meant_sheet mean (left before answer) ≡ left (meant_sheet mean before) (outcome (meanings o) (length (map (meant_row mean) rows)) (meant_call mean call) (meant_sheet mean before))
      leaves = left_same before answer ∙ ap (left (meant_sheet mean before)) answered

      pub does_meant : Does (meanings o) (meant_call mean call) plan (map (meant_row mean) rows) v plan' (map (meant_row mean) rows')
      does_meant = record {
        answers = d.answers ∙ verdict_same answer ∙ ap verdict_of answered;
        plans = d.plans ∙ ap (λ (s : Sheet M). s.plan) leaves;
        tables = ap (map (meant_row mean)) d.tables ∙ ap (λ (s : Sheet M). s.rows) leaves;
      }

      -- what a call does to values, and the same call of a story
      pub both_ways : record {
        does : Does (valued o mean nil) call plan rows v plan' rows';
        story : Does (meanings o) (meant_call mean call) plan (map (meant_row mean) rows) v plan' (map (meant_row mean) rows');
      }
      both_ways = record { does = d; story = does_meant }
