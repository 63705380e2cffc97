-- Arrays made by a closure that each call leaves as it was. Assumes nothing.
use Rattle.std.proofs.Common.{◌≡◌, ℕ, zero, suc, ◌+◌, ◌<◌, ◌≤◌, List, get_or, sym, subst, inl, inr, arith}
use denote.Param.Members.{Mut}
use Rattle.std.specs.Fn.{Called}
use Rattle.std.specs.Array.{IsFromFnResult, IsFromFnResultFrom}
use Rattle.std.proofs.lemmas.Bool.{cases_eq}

module _ {F B : Type 0} (g : Mut F (ℕ × Unit {0}) B) (P : ℕ → B → Type 0) (f : F) (n : ℕ) (h : (k : ℕ) (y : B) (q : F) → k < n → Called g f (k, tt) y q → P k y × (q ≡ f)) where
  made_from : (ys : List B) (i m k : ℕ) (d : B) (p : F) → i + m ≡ n → p ≡ f → IsFromFnResultFrom g p ys i m → i ≤ k → k < n → P k (get_or ys k d)
  made_from ys i zero k d p long e t low high = absurd (omega arith)
  made_from ys i (suc m) k d p long e t low high =
      let one = h i t.1 t.0 (omega arith) (subst (λ (q : F). Called g q (i, tt) t.1 t.0) e t.3) in
      elim (cases_eq k i) [
        | inl same ↦ subst (λ (j : ℕ). P j (get_or ys j d)) (sym same) (subst (P i) (sym (t.2.1 d)) one.0)
        | inr other ↦ made_from ys (i + 1) m k d t.0 (omega arith) one.1 t.4 (omega arith) high
      ]

  -- what holds of each call's result holds of the element at its place
  pub made_each : (ys : List B) (k : ℕ) (d : B) → IsFromFnResult g f ys n → k < n → P k (get_or ys k d)
  made_each ys k d made l = made_from ys 0 n k d f (omega arith) (λ i. f) made.each (omega arith) l
