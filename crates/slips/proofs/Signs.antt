-- An array made by calls, and that the entries of a row of two words are entries. Assumes nothing.
use Rattle.std.proofs.Common.{◌≡◌, ℕ, zero, suc, ◌+◌, ◌<◌, Bool, true, false, cond, ◌&&◌, List, map, get_or, pos, negsuc, refl, ap, ◌∙◌, subst, add-zero, zero-add, arith}
use denote.Param.Members.{Mut, Called}
use Rattle.std.specs.Array.{IsFromFnResult, IsFromFnResultFrom}
use Rattle.std.specs.List.{range_with_len}
use Rattle.std.proofs.lemmas.List.FromFn.{fill_by_all}
use Rattle.slips.specs.Entries.{is_entry, are_entries, is_in, entry_at}

sign : (a b : Bool) → is_entry (cond a (cond b (negsuc 0) (pos 1)) (pos 0)) ≡ true
sign true true = refl
sign true false = refl
sign false b = refl

pub entries_signs : (m a at n : ℕ) → are_entries (map (entry_at m a) (range_with_len at n)) ≡ true
unfolding are_entries
entries_signs m a at zero = refl
entries_signs m a at (suc n) =
    ap (λ (b : Bool). b && are_entries (map (entry_at m a) (range_with_len (at + 1) n))) (sign (is_in at m) (is_in at a)) ∙ entries_signs m a (at + 1) n

-- what calls at the numbers below n gave, where each leaves the closure as it was
module _ {F B : Type 0} (g : Mut F (ℕ × Unit {0}) B) (h : ℕ → B) (f : F) (n : ℕ) (gives : (i : ℕ) (y : B) (q : F) → i < n → Called g f (i, tt) y q → (q ≡ f) × (y ≡ h i)) where
  made_from : (ys : List B) (d : B) (i m : ℕ) → i + m ≡ n → IsFromFnResultFrom g f ys i m → (k : ℕ) → k < m → get_or ys (i + k) d ≡ h (i + k)
  made_from ys d i zero e c k l = absurd (omega arith)
  made_from ys d i (suc m) e (q, y, at, call, rest) zero l = let is = gives i y q (omega arith) call in let z = add-zero i in rw z (at.1 d ∙ is.1)
  made_from ys d i (suc m) e (q, y, at, call, rest) (suc k) l =
      let is = gives i y q (omega arith) call in
      let z : i + suc k ≡ i + 1 + k = omega arith in
      rw z (made_from ys d (i + 1) m (omega arith) (subst (λ (p : F). IsFromFnResultFrom g p ys (i + 1) m) is.0 rest) k (omega arith))

  pub made_by : (ys : List B) → IsFromFnResult g f ys n → ys ≡ map h (range_with_len 0 n)
  made_by ys c = fill_by_all h ys n (h 0) c.long (λ k l. let z = zero-add k in rw z at (made_from ys (h 0) 0 n (zero-add n) c.each k l))
