-- Readings taken one after another.
use Rattle.std.proofs.Common.{◌≡◌, ℕ, zero, suc, ◌+◌, ◌-◌, ◌<◌, List, [], ◌∷◌, ◌++◌, length, take, set, ℤ, Option, sym, refl, ap, ◌∙◌, add-one, arith, take-suc-set}
use lib.Ieee.{Float}
use Rattle.sheet.specs.declared.plan.Plan.{Plan}
use Rattle.sheet.specs.declared.row.Row.{Row}
use Rattle.sheet.specs.Refusals.{Answer, granted, refused, after, Told}
use Rattle.printed_key.specs.Blocks.{reading_here, readings_below}

module _ (p : Plan) (rows : List (Row Float)) where
  abbrev next : ℕ → Answer (List (Option ℤ)) → Answer (List (Option ℤ))
  next k a = after a (λ zs. after (reading_here p rows k) (λ z. granted (zs ++ (z ∷ []))))

  below_suc : (k : ℕ) → readings_below p rows (suc k) ≡ next k (readings_below p rows k)
  unfolding readings_below
  below_suc k = refl

  pub none-taken : (zs : List (Option ℤ)) → readings_below p rows 0 ≡ granted (take 0 zs)
  unfolding readings_below
  none-taken zs = refl

  pub one-taken :
      (zs : List (Option ℤ)) (k : ℕ) (z : Option ℤ) → k < length zs →
      readings_below p rows k ≡ granted (take k zs) → granted z ≡ reading_here p rows k → readings_below p rows (k + 1) ≡ granted (take (k + 1) (set zs k z))
  one-taken zs k z h e g =
      ap (readings_below p rows) (add-one k) ∙ below_suc k ∙ ap (next k) e
      ∙ ap (λ a. after a (λ y. granted (take k zs ++ (y ∷ [])))) (sym g)
      ∙ ap granted (sym (take-suc-set zs k z h) ∙ ap (λ n. take n (set zs k z)) (sym (add-one k)))

  refused_then : (k : ℕ) (t : Told) → readings_below p rows k ≡ refused t → readings_below p rows (suc k) ≡ refused t
  refused_then k t e = below_suc k ∙ ap (next k) e

  refused_on : (d k : ℕ) (t : Told) → readings_below p rows k ≡ refused t → readings_below p rows (d + k) ≡ refused t
  refused_on zero k t e = ap (readings_below p rows) (omega arith) ∙ e
  refused_on (suc d) k t e = ap (readings_below p rows) (omega arith) ∙ refused_then (d + k) t (refused_on d k t e)

  pub one-refused :
      (zs : List (Option ℤ)) (k : ℕ) (t : Told) → k < 32 →
      readings_below p rows k ≡ granted zs → refused t ≡ reading_here p rows k → readings_below p rows 32 ≡ refused t
  one-refused zs k t h e g =
      let d : ℕ = 31 - k in
      let eq : 32 ≡ d + suc k = omega arith in
      ap (readings_below p rows) eq
      ∙ refused_on d (suc k) t (below_suc k ∙ ap (next k) e ∙ ap (λ a. after a (λ z. granted (zs ++ (z ∷ [])))) (sym g))
