-- Linear systems of at most 15 unknowns stand. Assumes nothing.
use Rattle.std.proofs.Common.{◌≡◌, ℕ, ◌<◌, ◌≤◌, Bool, true, false, cond, ltb, List, map, length, sym, refl, ap, ◌∙◌, subst, ap₂, arith, le-ltb, lt-ltb}
use Rattle.std.specs.List.{range_with_len}
use Rattle.std.proofs.lemmas.List.FromFn.{length-map-range_with_len, get_or-map-range_with_len}
use Rattle.arithmetic.specs.Ops.{Ops, Exact}
use Rattle.linear.specs.Elimination.{entry, eliminate, back, solved}
use Rattle.linear.specs.Systems.{sum, member, image, Solution, TrivialKernel, Singular, found, LinearSystems}
use Rattle.linear.proofs.Ring.{ring}
use Rattle.linear.proofs.Sums.{sum_same, sum_more}
use Rattle.linear.proofs.Matrix.{dot, Null}
use Rattle.linear.proofs.Stages.{entries, Went, Stopped, eliminate_ends}
use Rattle.linear.proofs.Triangles.{only_zero, kernel}
use Rattle.linear.proofs.Back.{found_all}

-- the list x with v in column n
abbrev with : {M : Type 0} → ℕ → (ℕ → M) → M → ℕ → M
with n x v c = cond (ltb c n) (x c) v

with_in : {M : Type 0} (n : ℕ) (x : ℕ → M) (v : M) (c : ℕ) → c < n → with n x v c ≡ x c
with_in n x v c h = ap (λ (b : Bool). cond b (x c) v) (lt-ltb c n h)

with_last : {M : Type 0} (n : ℕ) (x : ℕ → M) (v : M) → with n x v n ≡ v
with_last n x v = ap (λ (b : Bool). cond b (x n) v) (le-ltb n n (omega arith))

dot-with :
    {M : Type 0} (o : Ops M) (n : ℕ) (A : ℕ → ℕ → M) (x : ℕ → M) (v : M) (r : ℕ) →
    dot o n A (with n x v) r ≡ o.add (sum o n (λ c. o.mul (A r c) (x c))) (o.mul (A r n) v)
unfolding sum
dot-with o n A x v r =
    ap₂ o.add (sum_same o n (λ c. o.mul (A r c) (with n x v c)) (λ c. o.mul (A r c) (x c)) (λ k h. ap (o.mul (A r k)) (with_in n x v k h)))
    (ap (o.mul (A r n)) (with_last n x v))

module _ {M : Type 0} {o : Ops M} (laws : Exact o) where
  balance : (s b : M) → s ≡ b → o.add s (o.mul b (o.neg o.one)) ≡ o.nought
  balance s b e = ap (λ s. o.add s (o.mul b (o.neg o.one))) e ∙ simp (ring, laws)

  unbalance : (s b : M) → o.add s (o.mul b (o.neg o.one)) ≡ o.nought → s ≡ b
  unbalance s b e = let f : s ≡ o.add (o.add s (o.mul b (o.neg o.one))) b = simp (ring, laws) in f ∙ ap (λ y. o.add y b) e ∙ simp (ring, laws)

  -- a solution is a list that goes to zero with -1 for the right side
  solves-null :
      (n : ℕ) (A : ℕ → ℕ → M) (x : ℕ → M) → ((r : ℕ) → r < n → sum o n (λ c. o.mul (A r c) (x c)) ≡ A r n) →
      Null o n A (with n x (o.neg o.one))
  solves-null n A x e r h = dot-with o n A x (o.neg o.one) r ∙ balance (sum o n (λ c. o.mul (A r c) (x c))) (A r n) (e r h)

  null-solves :
      (n : ℕ) (A : ℕ → ℕ → M) (x : ℕ → M) → Null o n A (with n x (o.neg o.one)) → (r : ℕ) → r < n →
      sum o n (λ c. o.mul (A r c) (x c)) ≡ A r n
  null-solves n A x z r h = unbalance (sum o n (λ c. o.mul (A r c) (x c))) (A r n) (sym (dot-with o n A x (o.neg o.one) r) ∙ z r h)

  ends_zero : (s b : M) → o.add s (o.mul b o.nought) ≡ s
  ends_zero s b = simp (ring, laws)

  -- what the matrix takes to zero goes to zero with 0 for the right side
  dies-null :
      (n : ℕ) (A : ℕ → ℕ → M) (x : ℕ → M) → ((r : ℕ) → r < n → sum o n (λ c. o.mul (A r c) (x c)) ≡ o.nought) →
      Null o n A (with n x o.nought)
  dies-null n A x e r h = dot-with o n A x o.nought r ∙ ends_zero (sum o n (λ c. o.mul (A r c) (x c))) (A r n) ∙ e r h

  null-dies :
      (n : ℕ) (A : ℕ → ℕ → M) (x : ℕ → M) → x n ≡ o.nought → Null o n A x → (r : ℕ) → r < n →
      sum o n (λ c. o.mul (A r c) (x c)) ≡ o.nought
  unfolding sum
  null-dies n A x last z r h =
      sym (ap (λ y. o.add (sum o n (λ c. o.mul (A r c) (x c))) (o.mul (A r n) y)) last ∙ ends_zero (sum o n (λ c. o.mul (A r c) (x c))) (A r n)) ∙ z r h

  -- all pivots: only zeros go to zero
  regular :
      (n : ℕ) (w v : List M) → Went o n w n v → (x : ℕ → M) → ((r : ℕ) → r < n → sum o n (λ c. o.mul (entry o w r c) (x c)) ≡ o.nought) →
      (c : ℕ) → c < n → x c ≡ o.nought
  regular n w v g x dies c h =
      let y = with n x o.nought in
      sym (with_in n x o.nought c h)
      ∙ only_zero laws n (entries o w) (entries o v) g.stage y
      (g.stage.alike.there y (dies-null n (entries o w) x dies))
      (with_last n x o.nought) n 0 (omega arith) c (omega arith) h

  -- two solutions differ by what goes to zero
  apart : (a b : M) → a ≡ b → o.add a (o.mul (o.neg o.one) b) ≡ o.nought
  apart a b e = ap (λ y. o.add y (o.mul (o.neg o.one) b)) e ∙ simp (ring, laws)

  near : (a b : M) → o.add a (o.mul (o.neg o.one) b) ≡ o.nought → a ≡ b
  near a b e = let f : a ≡ o.add (o.add a (o.mul (o.neg o.one) b)) b = simp (ring, laws) in f ∙ ap (λ y. o.add y b) e ∙ simp (ring, laws)

  only :
      (n : ℕ) (w v : List M) → Went o n w n v → (x y : ℕ → M) →
      ((r : ℕ) → r < n → sum o n (λ c. o.mul (entry o w r c) (x c)) ≡ entry o w r n) →
      ((r : ℕ) → r < n → sum o n (λ c. o.mul (entry o w r c) (y c)) ≡ entry o w r n) →
      (c : ℕ) → c < n → y c ≡ x c
  only n w v g x y sx sy c h =
      near (y c) (x c)
      (regular n w v g (λ k. o.add (y k) (o.mul (o.neg o.one) (x k)))
      (λ r l. sum_more laws n (o.neg o.one) (λ k. entry o w r k) y x ∙ apart _ _ (sy r l ∙ sym (sx r l))) c h)

  -- the found values solve the rows that came in
  found-solve :
      (n : ℕ) (w v : List M) → n ≤ 15 → 304 ≤ length w → Went o n w n v →
      (r : ℕ) → r < n → sum o n (λ c. o.mul (entry o w r c) (entry o (back o n v) c n)) ≡ entry o w r n
  found-solve n w v hn long g =
      let size = g.long in
      let x : ℕ → M = λ c. entry o (back o n v) c n in
      let f = found_all laws n (entries o w) v hn (omega arith) g.stage in
      null-solves n (entries o w) x (g.stage.alike.back (with n x (o.neg o.one)) (solves-null n (entries o v) x (λ r h. f.solves r (omega arith) h)))

  listed : (n : ℕ) (x : ℕ → M) (c : ℕ) → c < n → member o (map x (range_with_len 0 n)) c ≡ x c
  listed n x c h = get_or-map-range_with_len x 0 n c c o.nought h (omega arith)

  image-listed :
      (n : ℕ) (w : List M) (x : ℕ → M) (r : ℕ) → image o n w (map x (range_with_len 0 n)) r ≡ sum o n (λ c. o.mul (entry o w r c) (x c))
  image-listed n w x r = sum_same o n _ _ (λ k h. ap (o.mul (entry o w r k)) (listed n x k h))

  solution : (n : ℕ) (w v : List M) → n ≤ 15 → 304 ≤ length w → Went o n w n v → Solution o n w (found o n (back o n v))
  solution n w v hn long g =
      let x : ℕ → M = λ c. entry o (back o n v) c n in
      let sx = found-solve n w v hn long g in
      record {
        solves = λ r h. image-listed n w x r ∙ sx r h;
        only = λ y sy c h. only n w v g x (member o y) sx sy c h ∙ sym (listed n x c h);
      }

  singular : (n : ℕ) (w v : List M) → Stopped o n w v → Singular o n w
  singular n w v s =
      let i = s.column in
      let k = kernel laws n i (entries o w) (entries o v) s.within s.went.stage s.empty i 0 (omega arith) in
      let x = k.list in
      record {
        list = map x (range_with_len 0 n);
        long = length-map-range_with_len x 0 n;
        at = i;
        within = s.within;
        some = λ z. laws.zero_one (sym z ∙ listed n x i s.within ∙ k.some);
        kernel = λ r h. image-listed n w x r ∙ null-dies n (entries o w) x k.last (s.went.stage.alike.back x (λ q l. k.dies q (omega arith) l)) r h;
      }

  none : (n : ℕ) (w : List M) → n ≤ 15 → 304 ≤ length w → (solved o n w).ok ≡ false → Singular o n w
  none n w hn long e = singular n w (eliminate o n w).left ((eliminate_ends laws n w hn long).stopped e)

  granted : (n : ℕ) (w : List M) → n ≤ 15 → 304 ≤ length w → TrivialKernel o n w → (solved o n w).ok ≡ true
  granted n w hn long only = go (solved o n w).ok refl
    where
      go : (b : Bool) → (solved o n w).ok ≡ b → (solved o n w).ok ≡ true
      go true e = e
      go false e = let s = none n w hn long e in absurd (s.some (only s.list s.kernel s.at s.within))

  pub linear_systems : LinearSystems o
  linear_systems = record {
    pivots = λ n w hn long e.
        subst (λ v. Solution o n w (found o n v)) (sym (ap (λ (b : Bool). cond b (back o n (eliminate o n w).left) (eliminate o n w).left) e))
        (solution n w (eliminate o n w).left hn long ((eliminate_ends laws n w hn long).ended e));
    regular = λ n w hn long e x. regular n w (eliminate o n w).left ((eliminate_ends laws n w hn long).ended e) (member o x);
    none = none;
    granted = granted;
  }
