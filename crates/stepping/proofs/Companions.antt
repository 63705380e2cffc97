-- What stands at a place, by its branch and its row. Assumes nothing.
use Rattle.std.proofs.Common.{◌≡◌, ℕ, ◌+◌, ◌<◌, cond, List, map, length, get_or, set, Some, None, Option, sym, ap, ◌∙◌}
use Rattle.std.proofs.lemmas.List.{get_or-map}
use Rattle.std.proofs.lemmas.Bool.{lt-ltb}
use Rattle.arithmetic.specs.Ops.{Ops}
use Rattle.sheet.specs.declared.branch.Branch.{Branch}
use Rattle.sheet.specs.declared.plan.Plan.{Plan}
use Rattle.sheet.specs.declared.row.Row.{Row}
use Rattle.sheet.specs.Meanings.{meant_row}
use Rattle.sheet.specs.Plans.{branch_at}
use Rattle.stories.specs.Companions.{conductance, feed}
use Rattle.stories.specs.Networks.{kind_found, kind_at}
use Rattle.stories.specs.Steps.{row_at}
use Rattle.stepping.specs.Steps.{is_feeding, companion_turn}

pub kind_at_lem : (p : Plan) (k : ℕ) (b : Option Branch) → k < 32 → b ≡ branch_at p k → kind_found b ≡ kind_at p k
unfolding kind_at
kind_at_lem p k b l e = ap kind_found e ∙ sym (ap (λ t. cond t (kind_found (branch_at p k)) None) (lt-ltb k 32 l))

pub row_at_lem : {V M : Type 0} (o : Ops M) (mean : V → M) (rows : List (Row V)) (k : ℕ) (d : Row V) → k < length rows → meant_row mean (get_or rows k d) ≡ row_at o (map (meant_row mean) rows) k
unfolding row_at
row_at_lem o mean rows k d l = sym (get_or-map (meant_row mean) rows k d _ l)

-- conductance and feed of the branch k put into the area
abbrev pub storing : {M : Type 0} → Ops M → Plan → M → (ℕ → Row M) → ℕ → List M → List M
storing o p h at k w = set (set w k (conductance o h (kind_at p k) (at k))) (32 + k) (feed o h (kind_at p k) (at k))

module _ {M : Type 0} (o : Ops M) (p : Plan) (h : M) (at : ℕ → Row M) (k : ℕ) (w : List M) where
  pub stored : (b : Branch) (r : Row M) → k < 32 → Some b ≡ branch_at p k → r ≡ at k →
      cond (is_feeding (Some b.kind)) (set (set w k (conductance o h (Some b.kind) r)) (32 + k) (feed o h (Some b.kind) r)) w ≡ companion_turn o p h at k w
  stored b r l e d =
      ap (λ r. cond (is_feeding (Some b.kind)) (set (set w k (conductance o h (Some b.kind) r)) (32 + k) (feed o h (Some b.kind) r)) w) d
      ∙ ap (λ f. cond (is_feeding f) (set (set w k (conductance o h f (at k))) (32 + k) (feed o h f (at k))) w) (kind_at_lem p k (Some b) l e)

  pub not-stored : k < 32 → None ≡ branch_at p k → w ≡ companion_turn o p h at k w
  not-stored l e = ap (λ f. cond (is_feeding f) (set (set w k (conductance o h f (at k))) (32 + k) (feed o h f (at k))) w) (kind_at_lem p k None l e)
