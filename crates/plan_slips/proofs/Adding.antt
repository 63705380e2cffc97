-- One loop row more, and all of them. Assumes nothing.
use Rattle.std.proofs.Common.{◌≡◌, ℕ, zero, suc, ◌+◌, ◌-◌, ◌<◌, ◌≤◌, List, [], ◌∷◌, ◌++◌, length, Some, Option, Result, MatchResult, sym, ap, ◌∙◌, subst, append-nil, append_assoc, add-zero, add-one, add-suc, arith}
use Rattle.sheet.specs.declared.plan.Plan.{Plan}
use Rattle.sheet.specs.declared.refusal.Shown.{Shown}
use Rattle.sheet.specs.declared.refusal.Refusal.{Refusal}
use Rattle.sheet.specs.Refusals.{granted, told}
use Rattle.slips.specs.declared.row.SlipRow.{SlipRow}
use Rattle.slips.specs.Writing.{opened, blanked, slip_answer, Holds, ReadsBack}
use Rattle.slips.proofs.Whole.{Written, Slipped, none_written}
use Rattle.topology.specs.Trees.{tree_of, loop_of}
use Rattle.plan_slips.specs.Own.{row_of, own_rows, OwnSlip}

same_tree : (p : Plan) {w v : ℕ} → granted w ≡ tree_of p → tree_of p ≡ granted v → w ≡ v
same_tree p e f = cc

-- before the first row
pub begun : (p : Plan) (w : ℕ) {area a : List ℕ} {at next : ℕ} → a ≡ opened w area → at ≡ 32 → next ≡ 0
    → (280 ≤ length area → Holds (record { tree = w; rows = [] }) a at next) → Written w (own_rows p w 0) area a at next
unfolding own_rows
begun p w {area} is x y h = none_written w area is x y h

-- at the end
pub own_slip : {p : Plan} {w : ℕ} {area b : List ℕ} {r : Result ℕ Refusal} → granted w ≡ tree_of p → Slipped (record { tree = w; rows = own_rows p w 32 }) area b r → OwnSlip p area b r
own_slip {p} {w} {area} {b} {r} e s = record {
  refuses = λ t f. cc;
  answers = λ v f. subst (λ z. told r ≡ slip_answer (length area) (own_rows p z 32)) (same_tree p e f) s.answers;
  writes = λ v f. subst (λ z. MatchResult r (ReadsBack (record { tree = z; rows = own_rows p z 32 }) b) (λ _. b ≡ blanked area)) (same_tree p e f) s.slip;
  past = s.past;
}

-- the rows below the next number
pub row_more : (p : Plan) (w k : ℕ) {x : Option Shown} → x ≡ loop_of p w k → own_rows p w k ++ row_of k x ≡ own_rows p w (k + 1)
unfolding own_rows
row_more p w k e = ap (λ y. own_rows p w k ++ row_of k y) e ∙ sym (ap (own_rows p w) (add-one k))

-- the rows from k on
rows_from : Plan → ℕ → ℕ → ℕ → List SlipRow
rows_from p w k zero = []
rows_from p w k (suc n) = rows_from p w k n ++ row_of (k + n) (loop_of p w (k + n))

rows_split : (p : Plan) (w k n : ℕ) → own_rows p w k ++ rows_from p w k n ≡ own_rows p w (k + n)
unfolding own_rows rows_from
rows_split p w k zero = append-nil (own_rows p w k) ∙ sym (ap (own_rows p w) (add-zero k))
rows_split p w k (suc n) =
    sym (append_assoc (own_rows p w k) (rows_from p w k n) (row_of (k + n) (loop_of p w (k + n))))
    ∙ ap (λ xs. xs ++ row_of (k + n) (loop_of p w (k + n))) (rows_split p w k n)
    ∙ sym (ap (own_rows p w) (add-suc k n))

pub rows_after : Plan → ℕ → ℕ → List SlipRow
rows_after p w k = rows_from p w (k + 1) (31 - k)

pub rows_whole : (p : Plan) (w k : ℕ) {s : Shown} {r : SlipRow} → k < 32 → Some s ≡ loop_of p w k → row_of k (Some s) ≡ r ∷ [] → own_rows p w k ++ r ∷ rows_after p w k ≡ own_rows p w 32
unfolding rows_after
rows_whole p w k {s} {r} h e is =
    sym (append_assoc (own_rows p w k) (r ∷ []) (rows_from p w (k + 1) (31 - k)))
    ∙ ap (λ xs. own_rows p w k ++ xs ++ rows_from p w (k + 1) (31 - k)) (sym is)
    ∙ ap (λ xs. xs ++ rows_from p w (k + 1) (31 - k)) (row_more p w k e)
    ∙ rows_split p w (k + 1) (31 - k)
    ∙ ap (own_rows p w) (omega arith)
