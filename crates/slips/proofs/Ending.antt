-- An area after opening and after an end, by its length. Assumes nothing.
use Rattle.std.proofs.Common.{◌≡◌, ℕ, ◌<◌, ◌≤◌, Bool, cond, List, length, get_or, sym, ap, ◌∙◌, arith, ext_get_or, le-ltb, lt-ltb}
use native.Mathlib.Decide.{dec_lt}
use Rattle.slips.specs.Bits.{put_bits, low, zeroed}
use Rattle.slips.specs.Writing.{opened, blanked, Blank, Past}
use Rattle.slips.proofs.Packing.{zeroed-below, zeroed_past, past_bits}
use Rattle.slips.proofs.Putting.{length-low, length-zeroed}

pub blanked_short : (area : List ℕ) → length area < 280 → blanked area ≡ area
unfolding blanked
blanked_short area h = ap (λ (b : Bool). cond b area (zeroed 280 area)) (lt-ltb (length area) 280 h)

pub blanked_wide : (area : List ℕ) → 280 ≤ length area → blanked area ≡ zeroed 280 area
unfolding blanked
blanked_wide area h = ap (λ (b : Bool). cond b area (zeroed 280 area)) (le-ltb (length area) 280 h)

pub opened_short : (tree : ℕ) (area : List ℕ) → length area < 280 → opened tree area ≡ area
unfolding opened
opened_short tree area h = ap (λ (b : Bool). cond b area (put_bits (zeroed 280 area) 0 (low 32 tree))) (lt-ltb (length area) 280 h)

pub opened_wide : (tree : ℕ) (area : List ℕ) → 280 ≤ length area → opened tree area ≡ put_bits (zeroed 280 area) 0 (low 32 tree)
unfolding opened
opened_wide tree area h = ap (λ (b : Bool). cond b area (put_bits (zeroed 280 area) 0 (low 32 tree))) (le-ltb (length area) 280 h)

pub blanked_past : (area : List ℕ) {area' : List ℕ} → area' ≡ blanked area → Past area area'
blanked_past area e k h = ap (λ (xs : List ℕ). get_or xs k 0) e ∙ go (dec_lt (length area) 280)
  where
    go : Dec (length area < 280) → get_or (blanked area) k 0 ≡ get_or area k 0
    go (yes l) = ap (λ (xs : List ℕ). get_or xs k 0) (blanked_short area l)
    go (no l) = ap (λ (xs : List ℕ). get_or xs k 0) (blanked_wide area (omega arith)) ∙ zeroed_past 280 area k h

pub blanked_zeros : (area : List ℕ) {area' : List ℕ} → area' ≡ blanked area → 280 ≤ length area → Blank area'
blanked_zeros area e r k h = ap (λ (xs : List ℕ). get_or xs k 0) (e ∙ blanked_wide area r) ∙ zeroed-below 280 area k h

pub opened_past : (tree : ℕ) (area : List ℕ) {area' : List ℕ} → area' ≡ opened tree area → Past area area'
opened_past tree area e k h = ap (λ (xs : List ℕ). get_or xs k 0) e ∙ go (dec_lt (length area) 280)
  where
    go : Dec (length area < 280) → get_or (opened tree area) k 0 ≡ get_or area k 0
    go (yes l) = ap (λ (xs : List ℕ). get_or xs k 0) (opened_short tree area l)
    go (no l) =
        ap (λ (xs : List ℕ). get_or xs k 0) (opened_wide tree area (omega arith))
        ∙ past_bits (low 32 tree) (zeroed 280 area) 0 (omega (arith, length-low 32 tree)) k h
        ∙ zeroed_past 280 area k h

-- what was written before a blank does not show
pub blanked_same : (area area' : List ℕ) → length area' ≡ length area → Past area area' → (length area < 280 → area' ≡ area) → blanked area' ≡ blanked area
blanked_same area area' e p s = go (dec_lt (length area) 280)
  where
    go : Dec (length area < 280) → blanked area' ≡ blanked area
    go (yes l) = ap blanked (s l)
    go (no l) =
        blanked_wide area' (omega arith)
        ∙ ext_get_or 0 (zeroed 280 area') (zeroed 280 area) (length-zeroed 280 area' ∙ e ∙ sym (length-zeroed 280 area)) (λ i h. at i (dec_lt i 280))
        ∙ sym (blanked_wide area (omega arith))
      where
        at : (i : ℕ) → Dec (i < 280) → get_or (zeroed 280 area') i 0 ≡ get_or (zeroed 280 area) i 0
        at i (yes l) = zeroed-below 280 area' i l ∙ sym (zeroed-below 280 area i l)
        at i (no l) =
            let h : 280 ≤ i = omega arith in
            zeroed_past 280 area' i h ∙ p i h ∙ sym (zeroed_past 280 area i h)
