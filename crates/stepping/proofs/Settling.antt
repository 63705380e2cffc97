-- A step whose tree is known: 14, 15 or the new rows. Assumes nothing.
use Rattle.std.proofs.Common.{◌≡◌, ℕ, zero, suc, ◌<◌, ◌≤◌, Bool, true, false, cond, not, ◌&&◌, ◌||◌, List, [], map, get_or, set, is_some, Some, None, Option, sym, refl, ap, ◌∙◌, ap₂, arith, get_or-set_other}
use Rattle.std.proofs.lemmas.Bool.{cond-false}
use Rattle.arithmetic.specs.Ops.{Ops}
use Rattle.sheet.specs.declared.kind.Kind.{Kind}
use Rattle.sheet.specs.declared.kind.Kind.TheVariants.{Resistor, Inductor, Capacitor, VoltageSource, CurrentSource}
use Rattle.sheet.specs.declared.plan.Plan.{Plan}
use Rattle.sheet.specs.declared.row.Row.{Row}
use Rattle.sheet.specs.Calls.{Sheet, left}
use Rattle.sheet.specs.Meanings.{meant_row, meant_sheet}
use Rattle.sheet.specs.Refusals.{granted, refused, refuse, Told, pass, fail, verdict_of}
use Rattle.graphs.specs.Graph.{Set, ◌∈◌}
use Rattle.networks.specs.Networks.{placed}
use Rattle.stories.specs.Assembly.{through}
use Rattle.stories.specs.Networks.{kind_at, is_voltage, is_current, is_passive, any}
use Rattle.stories.specs.Steps.{row_at, parts_of, solving, figure_of, voltage_of, current_of, renewed, renewed_rows, unsound, step_parts, step_result}
use Rattle.stories.proofs.Areas.{turns_keep}
use Rattle.stories.proofs.Networks.{placed_kind}
use Rattle.assembly.specs.Figures.{in_use, Filled}
use Rattle.stepping.specs.Steps.{unsound_at, renewed_at, given, settled, Settles, Others}

-- asked of the same numbers
pub any-alike : (S R : Set) (n : ℕ) → ((k : ℕ) → k < n → S k ≡ R k) → any S n ≡ any R n
unfolding any
any-alike S R zero e = refl
any-alike S R (suc n) e = ap₂ (λ (a b : Bool). a || b) (e n (omega arith)) (any-alike S R n (λ k l. e k (omega arith)))

used : (f : Option Kind) → is_some f ≡ true → (is_voltage f || (is_passive f || is_current f)) ≡ true
used None m = cc
used (Some Resistor) m = refl
used (Some Inductor) m = refl
used (Some Capacitor) m = refl
used (Some VoltageSource) m = refl
used (Some CurrentSource) m = refl

module _ {M : Type 0} (o : Ops M) (h : M) (s : Sheet M) (currents voltages : List M)
    (is : Filled o (in_use (step_parts o h s)) (current_of o (step_parts o h s) (figure_of o (step_parts o h s))) 32 currents)
    (us : Filled o (in_use (step_parts o h s)) (voltage_of o (step_parts o h s) (figure_of o (step_parts o h s))) 32 voltages) where
  placed_used : (k : ℕ) → k ∈ placed s.plan → k ∈ in_use (step_parts o h s)
  unfolding parts_of
  placed_used k m = used (kind_at s.plan k) (sym (placed_kind s.plan k) ∙ m)

  current_is : (k : ℕ) → k < 32 → k ∈ placed s.plan → get_or currents k o.nought ≡ (step_result o h s).current k
  current_is k l m = is.each k l (placed_used k m)

  voltage_is : (k : ℕ) → k < 32 → k ∈ placed s.plan → get_or voltages k o.nought ≡ (step_result o h s).voltage k
  voltage_is k l m = us.each k l (placed_used k m)

  -- the same results are asked
  pub unsound_is : any (unsound_at o s.plan currents voltages) 32 ≡ unsound o s.plan (step_result o h s)
  unfolding unsound
  unsound_is = any-alike _ _ 32 (λ k l. go k l (placed s.plan k) refl)
    where
      go : (k : ℕ) → k < 32 → (b : Bool) → placed s.plan k ≡ b →
          (placed s.plan k && not (o.is_sound (get_or currents k o.nought) && o.is_sound (get_or voltages k o.nought)))
          ≡ (placed s.plan k && not (o.is_sound ((step_result o h s).current k) && o.is_sound ((step_result o h s).voltage k)))
      go k l true m = ap₂ (λ x y. placed s.plan k && not (o.is_sound x && o.is_sound y)) (current_is k l m) (voltage_is k l m)
      go k l false m = ap (λ b. b && not (o.is_sound (get_or currents k o.nought) && o.is_sound (get_or voltages k o.nought))) m ∙ sym (ap (λ b. b && not (o.is_sound ((step_result o h s).current k) && o.is_sound ((step_result o h s).voltage k))) m)

  -- the same rows are written
  abbrev write : ℕ → List (Row M) → List (Row M)
  write k rs = set rs k (renewed (row_at o s.rows k) ((step_result o h s).current k) ((step_result o h s).voltage k))

  abbrev turn : ℕ → List (Row M) → List (Row M)
  turn k rs = cond (placed s.plan k) (write k rs) rs

  untouched : (n : ℕ) → row_at o (through turn n s.rows) n ≡ row_at o s.rows n
  unfolding row_at
  untouched n = turns_keep (placed s.plan) write (λ rs. row_at o rs n) n (λ k rs l m. get_or-set_other rs k n _ _ (omega arith)) s.rows

  one_row : (n : ℕ) → n < 32 → renewed_at o s.plan currents voltages n (through turn n s.rows) ≡ turn n (through turn n s.rows)
  one_row n l = go (placed s.plan n) refl
    where
      go : (b : Bool) → placed s.plan n ≡ b → renewed_at o s.plan currents voltages n (through turn n s.rows) ≡ turn n (through turn n s.rows)
      go true m =
          ap (λ r. cond (placed s.plan n) (set (through turn n s.rows) n (renewed r (get_or currents n o.nought) (get_or voltages n o.nought))) (through turn n s.rows)) (untouched n)
          ∙ ap₂ (λ x y. cond (placed s.plan n) (set (through turn n s.rows) n (renewed (row_at o s.rows n) x y)) (through turn n s.rows)) (current_is n l m) (voltage_is n l m)
      go false m =
          cond-false _ _ _ m ∙ sym (cond-false _ _ _ m)

  so_far : (n : ℕ) → n ≤ 32 → through (renewed_at o s.plan currents voltages) n s.rows ≡ through turn n s.rows
  unfolding through
  so_far zero l = refl
  so_far (suc n) l = ap (renewed_at o s.plan currents voltages n) (so_far n (omega arith)) ∙ one_row n (omega arith)

  pub rows_are : through (renewed_at o s.plan currents voltages) 32 s.rows ≡ renewed_rows o s.plan s.rows (step_result o h s)
  unfolding renewed_rows
  rows_are = so_far 32 (omega arith)

module _ {V M : Type 0} (o : Ops M) (mean : V → M) (h : M) (plan : Plan) (rows : List (Row V)) where
  abbrev sheet : Sheet M
  sheet = meant_sheet mean (record { plan = plan; rows = rows })

  pub settles_refused : (t : Told) → refused t ≡ settled o h sheet → Settles o mean h plan rows (fail t) rows
  settles_refused t e = record { answers = ap verdict_of e; tables = ap (λ a. (left sheet a).rows) e; gives = refl; others = λ k d f. refl; alone = λ x d. refl }

  pub is_unsound : true ≡ (solving o (step_parts o h sheet)).ok → unsound o plan (step_result o h sheet) ≡ true → refused (record { number = 15; words = [] }) ≡ settled o h sheet
  is_unsound e d = λ i. refuse 14 (not (e i)) (refuse 15 (sym d i) (granted (record { plan = plan; rows = renewed_rows o plan (map (meant_row mean) rows) (step_result o h sheet) })))

  pub settles-granted :
      (rows' : List (Row V)) → true ≡ (solving o (step_parts o h sheet)).ok → unsound o plan (step_result o h sheet) ≡ false →
      map (meant_row mean) rows' ≡ renewed_rows o plan (map (meant_row mean) rows) (step_result o h sheet) → map given rows' ≡ map given rows → Others plan rows rows' → Settles o mean h plan rows pass rows'
  settles-granted rows' e d r k q =
      let is : granted (record { plan = plan; rows = renewed_rows o plan (map (meant_row mean) rows) (step_result o h sheet) }) ≡ settled o h sheet =
      λ i. refuse 14 (not (e i)) (refuse 15 (sym d i) (granted (record { plan = plan; rows = renewed_rows o plan (map (meant_row mean) rows) (step_result o h sheet) })))
      in
      record { answers = ap verdict_of is; tables = r ∙ ap (λ a. (left sheet a).rows) is; gives = k; others = q; alone = λ t f. cc }
