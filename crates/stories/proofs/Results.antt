-- The rows that a step leaves: new figures at placed branches, all else as it was. Assumes nothing.
use Rattle.std.proofs.Common.{◌≡◌, ℕ, Bool, true, false, List, length, get_or, set, refl, ap, ◌∙◌, arith, length-set, get_or-set_other, get_or-set_same}
use Rattle.std.proofs.lemmas.Bool.{both_ways}
use Rattle.arithmetic.specs.Ops.{Ops}
use Rattle.sheet.specs.declared.plan.Plan.{Plan}
use Rattle.sheet.specs.declared.row.Row.{Row}
use Rattle.sheet.specs.Calls.{zero_row}
use Rattle.graphs.specs.Graph.{◌∈◌}
use Rattle.networks.specs.Networks.{placed}
use Rattle.networks.proofs.Networks.{placed_below}
use Rattle.sheet.specs.Meanings.{meanings}
use Rattle.stories.specs.Steps.{row_at, Result, renewed, renewed_rows}
use Rattle.stories.proofs.Areas.{turns_long, turns_keep, turns_own}

module _ {M : Type 0} (o : Ops M) (p : Plan) (rows : List (Row M)) (long : length rows ≡ 32) (f : Result M) where
  pub renewed_long : length (renewed_rows o p rows f) ≡ 32
  unfolding renewed_rows
  renewed_long = turns_long (placed p) (λ k rs. set rs k (renewed (row_at o rows k) (f.current k) (f.voltage k))) (λ k rs. length-set _ _ _) 32 rows ∙ long

  pub renewed-placed : (k : ℕ) → k ∈ placed p → row_at o (renewed_rows o p rows f) k ≡ renewed (row_at o rows k) (f.current k) (f.voltage k)
  unfolding renewed_rows row_at
  renewed-placed k m =
      let low = placed_below p k m in
      turns_own (placed p) (λ k rs. set rs k (renewed (row_at o rows k) (f.current k) (f.voltage k))) (λ rs. get_or rs k (zero_row (meanings o))) (renewed (row_at o rows k) (f.current k) (f.voltage k)) 32 k 32 low m
      (λ k rs. length-set _ _ _)
      (λ rs s. get_or-set_same rs k _ _ (omega arith))
      (λ j rs lt lj mj. get_or-set_other rs j k _ _ (omega arith))
      rows long

  pub renewed-empty : (k : ℕ) → placed p k ≡ false → row_at o (renewed_rows o p rows f) k ≡ row_at o rows k
  unfolding renewed_rows row_at
  renewed-empty k e =
      turns_keep (placed p) (λ k rs. set rs k (renewed (row_at o rows k) (f.current k) (f.voltage k))) (λ rs. get_or rs k (zero_row (meanings o))) 32
      (λ j rs lj mj. get_or-set_other rs j k _ _ (λ d. both_ways (placed p k) e (ap (placed p) d ∙ mj))) rows

  pub renewed-value : (k : ℕ) → (row_at o (renewed_rows o p rows f) k).value ≡ (row_at o rows k).value
  renewed-value k = go (placed p k) refl
    where
      go : (b : Bool) → placed p k ≡ b → (row_at o (renewed_rows o p rows f) k).value ≡ (row_at o rows k).value
      go true e = ap (λ r. r.value) (renewed-placed k e)
      go false e = ap (λ r. r.value) (renewed-empty k e)
