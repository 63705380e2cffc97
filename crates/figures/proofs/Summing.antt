-- A trace sums up the voltages that it was granted. Assumes nothing.
use Rattle.std.proofs.Common.{◌≡◌, ℕ, ◌+◌, ◌-◌, ◌<◌, Bool, true, false, cond, not, T, eqb, leb, List, [], ◌∷◌, ◌++◌, length, get_or, sym, refl, ap, ◌∙◌, subst, true≢false, append_assoc, arith, eq-eqb, ne_eqb}
use native.Mathlib.Decide.{dec_lt}
use lib.Ieee.{Float, nan, inf, fin, lt, le, is_nan}
use Rattle.std.specs.Float.{float_is_finite}
use Rattle.std.specs.Bool.{passes, fails}
use Rattle.std.specs.Float.Order.{le_of_lt, le_refl, le_trans, le_left, le_right, le_of_not-lt}
use Rattle.std.proofs.lemmas.List.{append-nil, length_push, get_or_append_left, get_or_push}
use Rattle.sheet.specs.Refusals.{Answer, granted, refused, refuse}
use Rattle.arithmetic.specs.Binary64.{nought}
use Rattle.figures.specs.declared.trace.Trace.{Trace}
use Rattle.figures.specs.Traces.{fresh_trace, lesser, greater, with_taking, taken, left, more_granted, if_granted, WasTaken, Extremes, Sums, after_all, granted_of}

number : (v : Float) → float_is_finite v ≡ true → T (not (is_nan v))
unfolding float_is_finite is_nan
number nan h = absurd (true≢false (sym h))
number (inf s) h = tt
number (fin s m e) h = tt

-- ---- one more voltage at the end
module _ (g : List Float) (v : Float) where
  every : (P : Float → Type 0) → ((k : ℕ) → k < length g → P (get_or g k nought)) → P v → (k : ℕ) → k < length (g ++ v ∷ []) → P (get_or (g ++ v ∷ []) k nought)
  every P old new k h = go (dec_lt k (length g))
    where
      go : Dec (k < length g) → P (get_or (g ++ v ∷ []) k nought)
      go (yes l) = subst P (sym (get_or_append_left g (v ∷ []) nought k l)) (old k l)
      go (no l) = subst P (sym (get_or_push g v nought k (omega (arith, length_push g v)))) new

  was_old : (x : Float) → WasTaken g x → WasTaken (g ++ v ∷ []) x
  was_old x w = (w.0, omega (arith, w.1, length_push g v), get_or_append_left g (v ∷ []) nought w.0 w.1 ∙ w.2)

  was_new : WasTaken (g ++ v ∷ []) v
  was_new = (length g, omega (arith, length_push g v), get_or_push g v nought (length g) refl)

  ends : v ≡ get_or (g ++ v ∷ []) (length (g ++ v ∷ []) - 1) nought
  ends = sym (get_or_push g v nought (length (g ++ v ∷ []) - 1) (omega (arith, length_push g v)))

  module _ (real : float_is_finite v ≡ true) where
    self : T (le v v)
    self = le_refl v (number v real)

    alone : length g ≡ 0 → (t : Trace) → t.least ≡ v → t.greatest ≡ v → t.last ≡ v → Extremes (g ++ v ∷ []) t
    alone z t a b c = record {
      least = subst (WasTaken (g ++ v ∷ [])) (sym a) was_new;
      below = every (λ x. T (le t.least x)) (λ k h. absurd (omega arith)) (subst (λ (x : Float). T (le x v)) (sym a) self);
      greatest = subst (WasTaken (g ++ v ∷ [])) (sym b) was_new;
      above = every (λ x. T (le x t.greatest)) (λ k h. absurd (omega arith)) (subst (λ (x : Float). T (le v x)) (sym b) self);
      last = c ∙ ends;
    }

    least_step : (old : Float) → WasTaken g old → ((k : ℕ) → k < length g → T (le old (get_or g k nought))) → (b : Bool) → lt v old ≡ b
        → WasTaken (g ++ v ∷ []) (cond b v old) × ((k : ℕ) → k < length (g ++ v ∷ []) → T (le (cond b v old) (get_or (g ++ v ∷ []) k nought)))
    least_step old w h true e = (was_new, every (λ x. T (le v x)) (λ k l. le_trans v old (get_or g k nought) (le_of_lt v old (passes (lt v old) e)) (h k l)) self)
    least_step old w h false e =
        let n = le_left old (get_or g w.0 nought) (h w.0 w.1) in
        (was_old old w, every (λ x. T (le old x)) h (le_of_not-lt v old (number v real) n (fails (lt v old) e)))

    greatest_step : (old : Float) → WasTaken g old → ((k : ℕ) → k < length g → T (le (get_or g k nought) old)) → (b : Bool) → lt old v ≡ b
        → WasTaken (g ++ v ∷ []) (cond b v old) × ((k : ℕ) → k < length (g ++ v ∷ []) → T (le (get_or (g ++ v ∷ []) k nought) (cond b v old)))
    greatest_step old w h true e = (was_new, every (λ x. T (le x v)) (λ k l. le_trans (get_or g k nought) old v (h k l) (le_of_lt old v (passes (lt old v) e))) self)
    greatest_step old w h false e =
        let n = le_right (get_or g w.0 nought) old (h w.0 w.1) in
        (was_old old w, every (λ x. T (le x old)) h (le_of_not-lt old v n (number v real) (fails (lt old v) e)))

    further : (t : Trace) → Extremes g t → (u : Trace) → u.least ≡ lesser v t.least → u.greatest ≡ greater v t.greatest → u.last ≡ v → Extremes (g ++ v ∷ []) u
    further t x u a b c =
        let p = least_step t.least x.least x.below (lt v t.least) refl in
        let q = greatest_step t.greatest x.greatest x.above (lt t.greatest v) refl in
        record {
          least = subst (WasTaken (g ++ v ∷ [])) (sym a) p.0;
          below = λ k h. subst (λ (y : Float). T (le y (get_or (g ++ v ∷ []) k nought))) (sym a) (p.1 k h);
          greatest = subst (WasTaken (g ++ v ∷ [])) (sym b) q.0;
          above = λ k h. subst (λ (y : Float). T (le (get_or (g ++ v ∷ []) k nought) y)) (sym b) (q.1 k h);
          last = c ∙ ends;
        }

    more : (t : Trace) → Sums g t → Sums (g ++ v ∷ []) (with_taking t v)
    more t s = record {
      count = ap (λ (n : ℕ). n + 1) s.count ∙ sym (length_push g v);
      none = λ z. absurd (omega (arith, length_push g v));
      some = λ _. go (dec_lt 0 (length g));
    }
      where
        first : (b : Bool) → b ≡ true → (x : Float) → cond b v x ≡ v
        first b e x = ap (λ (b : Bool). cond b v x) e

        later : (b : Bool) → b ≡ false → (x : Float) → cond b v x ≡ x
        later b e x = ap (λ (b : Bool). cond b v x) e

        go : Dec (0 < length g) → Extremes (g ++ v ∷ []) (with_taking t v)
        go (yes h) =
            let e = ne_eqb t.count 0 (omega (arith, s.count)) in
            further t (s.some h) (with_taking t v) (later (eqb t.count 0) e _) (later (eqb t.count 0) e _) refl
        go (no h) =
            let e = eq-eqb t.count 0 (omega (arith, s.count)) in
            alone (omega arith) (with_taking t v) (first (eqb t.count 0) e _) (first (eqb t.count 0) e _) refl

-- ---- one taking, granted or refused
pub sums_step : (g : List Float) (t : Trace) (v : Float) → Sums g t → Sums (more_granted (taken t v) g v) (left t (taken t v))
sums_step g t v s = go (float_is_finite v) (leb 1_000_000 t.count) refl
  where
    go : (a b : Bool) → float_is_finite v ≡ a
        → Sums (more_granted (refuse 19 (not a) (refuse 20 b (granted (with_taking t v)))) g v) (left t (refuse 19 (not a) (refuse 20 b (granted (with_taking t v)))))
    go false b e = s
    go true true e = s
    go true false e = more g v e t s

-- ---- any list of takings
fresh_sums : Sums [] fresh_trace
fresh_sums = record { count = refl; none = λ _. refl; some = λ h. absurd (omega arith) }

joined : {X : Type 0} (a : Answer X) (g : List Float) (v : Float) (rest : List Float) → more_granted a g v ++ rest ≡ g ++ if_granted a v rest
joined (granted x) g v rest = append_assoc g (v ∷ []) rest
joined (refused r) g v rest = refl

sums_all : (vs g : List Float) (t : Trace) → Sums g t → Sums (g ++ granted_of t vs) (after_all t vs)
unfolding granted_of after_all
sums_all [] g t s = subst (λ (h : List Float). Sums h t) (sym (append-nil g)) s
sums_all (v ∷ vs) g t s =
    let u = left t (taken t v) in
    subst (λ (h : List Float). Sums h (after_all u vs)) (joined (taken t v) g v (granted_of u vs)) (sums_all vs (more_granted (taken t v) g v) u (sums_step g t v s))

pub sums_fresh : (vs : List Float) → Sums (granted_of fresh_trace vs) (after_all fresh_trace vs)
sums_fresh vs = sums_all vs [] fresh_trace fresh_sums
