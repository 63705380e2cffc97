-- Rows renewed place by place, and results asked one by one. Assumes nothing.
use Rattle.std.proofs.Common.{◌≡◌, ℕ, ◌<◌, true, List, map, length, get_or, set, sym, ap, ◌∙◌, ap₂, get_or-set_other}
use Rattle.std.proofs.lemmas.List.{map-set, get_or-map, set-get_or}
use Rattle.std.proofs.lemmas.Bool.{both_ways, cond-true}
use Rattle.arithmetic.specs.Ops.{Ops}
use Rattle.sheet.specs.declared.plan.Plan.{Plan}
use Rattle.sheet.specs.declared.row.Row.{Row}
use Rattle.sheet.specs.Meanings.{meant_row}
use Rattle.networks.specs.Networks.{placed}
use Rattle.stories.specs.Steps.{row_at, renewed}
use Rattle.stepping.specs.Steps.{renewed_at, given, Others}

-- the row of the branch k with its new figures
abbrev pub renewing : {M : Type 0} → Ops M → List M → List M → ℕ → List (Row M) → List (Row M)
renewing o currents voltages k rs = set rs k (renewed (row_at o rs k) (get_or currents k o.nought) (get_or voltages k o.nought))

-- what was given stays
pub gives_same : {V : Type 0} (rows rows' : List (Row V)) (k : ℕ) (z : Row V) (i u : V) → rows' ≡ set rows k (renewed (get_or rows k z) i u) → k < length rows → map given rows' ≡ map given rows
gives_same rows rows' k z i u e l =
    ap (map given) e ∙ map-set given rows k (renewed (get_or rows k z) i u)
    ∙ ap (set (map given rows) k) (sym (get_or-map given rows k z (given z) l)) ∙ set-get_or (map given rows) k (given z)

-- the rows of empty places stay
pub others_same : {V : Type 0} (p : Plan) (rows rows' : List (Row V)) (k : ℕ) (r : Row V) → placed p k ≡ true → rows' ≡ set rows k r → Others p rows rows'
others_same p rows rows' k r m e j d f =
    let apart : k ≡ j → ⊥ = λ i. both_ways (placed p j) f (sym (ap (placed p) i) ∙ m) in
    ap (λ rs. get_or rs j d) e ∙ get_or-set_other rows k j r d (λ i. apart (sym i))

module _ {V M : Type 0} (o : Ops M) (mean : V → M) (p : Plan) (currents voltages : List M) where
  -- the row of a placed branch
  pub row-renewed :
      (rows rows' : List (Row V)) (k : ℕ) (z : Row V) (i u : V) → k < length rows → placed p k ≡ true → rows' ≡ set rows k (renewed (get_or rows k z) i u) →
      mean i ≡ get_or currents k o.nought → mean u ≡ get_or voltages k o.nought →
      map (meant_row mean) rows' ≡ renewed_at o p currents voltages k (map (meant_row mean) rows)
  unfolding row_at
  row-renewed rows rows' k z i u l m d a b =
      ap (map (meant_row mean)) d ∙ map-set (meant_row mean) rows k (renewed (get_or rows k z) i u)
      ∙ ap₂ (λ x y. set (map (meant_row mean) rows) k (renewed (meant_row mean (get_or rows k z)) x y)) a b
      ∙ ap (λ q. set (map (meant_row mean) rows) k (renewed q (get_or currents k o.nought) (get_or voltages k o.nought))) (sym (get_or-map (meant_row mean) rows k z _ l))
      ∙ sym (cond-true _ _ _ m)
