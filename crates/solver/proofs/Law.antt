-- What the answer and what is left come to: by the theory of linear systems, in every exact arithmetic. Assumes nothing.
use Rattle.std.proofs.Common.{◌≡◌, ℕ, ◌-◌, ◌<◌, ◌≤◌, Bool, true, false, cond, T, List, length, is_ok, Err, Result, sym, refl, ap, ◌∙◌, subst, ap₂, arith}
use Rattle.std.proofs.lemmas.Grind.{common_steps}
use Rattle.std.specs.Prelude.{MatchOption, Option, Some, None}
use Rattle.linear.specs.Loops.{first}
use Rattle.linear.proofs.Loops.{First, first_is}
use Rattle.arithmetic.specs.Ops.{Ops, Exact}
use Rattle.linear.specs.Elimination.{pivot_row, solved}
use Rattle.linear.specs.Systems.{member, Solution, TrivialKernel, Singular, found}
use Rattle.linear.specs.Inside.{Outside}
use Rattle.linear.proofs.Theorem.{linear_systems}
use Rattle.linear.proofs.Outside.{solved_stays}
use Rattle.solver.specs.declared.Unsolved.{Unsolved}
use Rattle.solver.specs.declared.Unsolved.TheVariants.{NoRoom, NoPivot}
use Rattle.solver.specs.Answer.{fits, answered, answer, leaves, below, pivot}

ok_both : (a b : Bool) → is_ok (answered a b) ≡ true → (a ≡ true) × (b ≡ true)
ok_both false b e = cc
ok_both true false e = cc
ok_both true true e = (refl, refl)

-- `find` over a range finds the number that `first` names, where that lies in the range
pub find_first :
    (p : ℕ → Bool) (n i : ℕ) (r : Option ℕ) →
    MatchOption r ((k : ℕ) → i ≤ k → k < n → p k ≡ false) (λ j. (i ≤ j) × (j < n) × (p j ≡ true) × ((k : ℕ) → i ≤ k → k < j → p k ≡ false)) →
    r ≡ below n (first p (n - i) i)
find_first p n i r h = go r h (first p (n - i) i) (first_is p (n - i) i)
  where
    go :
        (r : Option ℕ) → MatchOption r ((k : ℕ) → i ≤ k → k < n → p k ≡ false) (λ j. (i ≤ j) × (j < n) × (p j ≡ true) × ((k : ℕ) → i ≤ k → k < j → p k ≡ false)) →
        (t : ℕ) → First p (n - i) i t → r ≡ below n t
    go None h t f = let a = f.passes in let b = h t in grind (arith, common_steps)
    go (Some j) h t f = let a = f.passes in let b = f.before j in let d = h.3 t in grind (arith, common_steps)

-- the row that it names is none above the column's own
pub pivot_from : {M : Type 0} (o : Ops M) (n c j : ℕ) (w : List M) (r : Option ℕ) → r ≡ pivot o n c w → r ≡ Some j → c ≤ j
pivot_from o n c j w r e s = go (pivot_row o n c w) (first_is _ (n - c) c).from (sym e ∙ s)
  where
    go : (t : ℕ) → c ≤ t → below n t ≡ Some j → c ≤ j
    go t f h = grind (arith, common_steps)

pivot_both : (a b : Bool) → answered a b ≡ Err NoPivot → (a ≡ true) × (b ≡ false)
pivot_both false b e = cc
pivot_both true false e = (refl, refl)
pivot_both true true e = cc

-- all that the public call promises
abbrev pub Promise : {M : Type 0} → Ops M → Bool → ℕ → ℕ → List M → List M → Type 0 → Result (Unit {0}) Unsolved → Type 0
Promise o exact n places w v same r = record {
  answer : r ≡ answer o n w;
  left : v ≡ leaves o n w;
  alone : r ≡ Err NoRoom → same;
  around : (k : ℕ) → Outside n k → member o v k ≡ member o w k;
  solves : T exact → is_ok r ≡ true → Solution o n w (found o n v);
  regular : T exact → is_ok r ≡ true → TrivialKernel o n w;
  granted : T exact → fits n places ≡ true → TrivialKernel o n w → is_ok r ≡ true;
  singular : T exact → r ≡ Err NoPivot → Singular o n w;
}

module _ {M : Type 0} (o : Ops M) (n : ℕ) (w : List M) where
  room : fits n (length w) ≡ true → (n ≤ 15) × (304 ≤ length w)
  room e = (grind (arith, common_steps), grind (arith, common_steps))

  no_room_is : fits n (length w) ≡ false → (answer o n w ≡ Err NoRoom) × (leaves o n w ≡ w)
  unfolding answer leaves
  no_room_is e = (ap (λ (b : Bool). answered b (solved o n w).ok) e, ap (λ (b : Bool). cond b (solved o n w).left w) e)

  room_is : fits n (length w) ≡ true → (answer o n w ≡ answered true (solved o n w).ok) × (leaves o n w ≡ (solved o n w).left)
  unfolding answer leaves
  room_is e = (ap (λ (b : Bool). answered b (solved o n w).ok) e, ap (λ (b : Bool). cond b (solved o n w).left w) e)

  pub with_room : n ≤ 15 → 304 ≤ length w → (answer o n w ≡ answered true (solved o n w).ok) × (leaves o n w ≡ (solved o n w).left)
  with_room hn long = room_is (grind (arith, common_steps))

  stays : (v : List M) → v ≡ leaves o n w → (k : ℕ) → Outside n k → member o v k ≡ member o w k
  unfolding leaves
  stays v l k out = ap (λ v. member o v k) l ∙ go (fits n (length w))
    where
      go : (b : Bool) → member o (cond b (solved o n w).left w) k ≡ member o w k
      go true = solved_stays o n k out w
      go false = refl

  module _ (laws : Exact o) (r : Result (Unit {0}) Unsolved) (e : r ≡ answer o n w) where
    pivots : is_ok r ≡ true → (fits n (length w) ≡ true) × ((solved o n w).ok ≡ true)
    unfolding answer
    pivots h = ok_both (fits n (length w)) (solved o n w).ok (ap is_ok (sym e) ∙ h)

    solves : (v : List M) → v ≡ leaves o n w → is_ok r ≡ true → Solution o n w (found o n v)
    unfolding leaves
    solves v l h =
        let b = pivots h in
        let s = room b.0 in
        subst (λ v. Solution o n w (found o n v)) (sym (l ∙ ap (λ (b : Bool). cond b (solved o n w).left w) b.0))
        ((linear_systems laws).pivots n w s.0 s.1 b.1)

    regular : is_ok r ≡ true → TrivialKernel o n w
    regular h = let b = pivots h in let s = room b.0 in (linear_systems laws).regular n w s.0 s.1 b.1

    singular : r ≡ Err NoPivot → Singular o n w
    unfolding answer
    singular h =
        let b = pivot_both (fits n (length w)) (solved o n w).ok (sym e ∙ h) in
        let s = room b.0 in
        (linear_systems laws).none n w s.0 s.1 b.1

    granted : fits n (length w) ≡ true → TrivialKernel o n w → is_ok r ≡ true
    unfolding answer
    granted f z = let s = room f in ap is_ok (e ∙ ap₂ answered f ((linear_systems laws).granted n w s.0 s.1 z))

  -- the promise follows from the answer and what is left
  promise :
      (exact : Bool) (places : ℕ) (v : List M) (same : Type 0) (r : Result (Unit {0}) Unsolved) → (T exact → Exact o) → length w ≡ places →
      r ≡ answer o n w → v ≡ leaves o n w → (r ≡ Err NoRoom → same) → Promise o exact n places w v same r
  promise exact places v same r laws long e l a = record {
    answer = e;
    left = l;
    alone = a;
    around = stays v l;
    solves = λ t. solves (laws t) r e v l;
    regular = λ t. regular (laws t) r e;
    granted = λ t f. granted (laws t) r e (ap (fits n) long ∙ f);
    singular = λ t. singular (laws t) r e;
  }

  -- so it does where there is no room
  pub no_room :
      (exact : Bool) (places : ℕ) (same : Type 0) → (T exact → Exact o) → length w ≡ places → fits n places ≡ false → same →
      Promise o exact n places w w same (Err NoRoom)
  no_room exact places same laws long e a =
      let way = no_room_is (ap (fits n) long ∙ e) in
      promise exact places w same (Err NoRoom) laws long (sym way.0) (sym way.1) (λ _. a)

  -- and where there is
  pub tried :
      (exact : Bool) (places : ℕ) (v : List M) (same : Type 0) (r : Result (Unit {0}) Unsolved) → (T exact → Exact o) → length w ≡ places →
      fits n places ≡ true → r ≡ answered true (solved o n w).ok → v ≡ (solved o n w).left → Promise o exact n places w v same r
  tried exact places v same r laws long e a l =
      let way = room_is (ap (fits n) long ∙ e) in
      promise exact places v same r laws long (a ∙ sym way.0) (l ∙ sym way.1) (some_room (solved o n w).ok a)
    where
      some_room : (b : Bool) → r ≡ answered true b → r ≡ Err NoRoom → same
      some_room true e h = cc
      some_room false e h = cc
