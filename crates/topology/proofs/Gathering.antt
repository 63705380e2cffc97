-- Rows that are gathered one member after another.
use Rattle.std.proofs.Common.{◌≡◌, ℕ, ◌^◌, ◌<◌, Bool, true, false, cond, not, ◌&&◌, ◌||◌, eqb, ltb, sym, refl, ap, ◌∙◌, inl, inr, arith}
use mathlib.Core.Path.{fun_ext}
use mathlib.Core.Bool.{and-true, and-false}
use Rattle.std.proofs.lemmas.Bool.{cases_eq, eq-eqb, ne_eqb, both_ways, lt-ltb, ltb-true}
use Rattle.sheet.specs.declared.refusal.Shown.{Shown}
use Rattle.graphs.specs.Cuts.{cut_row}
use Rattle.graphs.specs.Graph.{Graph, Set, ◌∈◌, with, without, both, Below, Sign, none}
use Rattle.networks.specs.Words.{bits, except, under}
use Rattle.networks.proofs.Bits.{bits_zero, is_word}
use Rattle.topology.specs.Rows.{marks, backs, shown, cut_from}

-- the cut of the tail's side is the cut row
pub cut-from-side : (g : Graph) (S : Set) (t : ℕ) → cut_from g (without S t) (g.tail t) ≡ shown (cut_row g S 32 t)
unfolding cut_from cut_row
cut-from-side g S t = refl

-- a row by its two words
pub row_is : (f : ℕ → Sign) (s : Shown) → s.members < 2 ^ 32 → s.against < 2 ^ 32 → bits s.members ≡ under (λ j. marks (f j)) 32 → bits s.against ≡ under (λ j. backs (f j)) 32 → s ≡ shown f
row_is f s fit fit' members against = λ i. record {
  members = is_word s.members (λ j. marks (f j)) fit members i;
  against = is_word s.against (λ j. backs (f j)) fit' against i;
}

-- those of the members of W that pass a test, L being left: none yet, one member more, and all
picked_none : (P : Set) (W : Set) → bits 0 ≡ both (except W W) P
picked_none P W = fun_ext (λ j. bits_zero j ∙ go (W j) (P j))
  where
    go : (w p : Bool) → false ≡ ((w && not w) && p)
    go true p = refl
    go false p = refl

one_in : (w l p e : Bool) → w ≡ true → p ≡ true → e ≡ true → (((w && not l) && p) || e) ≡ ((w && not (l && not e)) && p)
one_in true true true true a b c = refl
one_in true false true true a b c = refl
one_in false l p e a b c = absurd (both_ways false refl a)
one_in true l false e a b c = absurd (both_ways false refl b)
one_in true l true false a b c = absurd (both_ways false refl c)

others_in : (w l p e : Bool) → e ≡ false → (((w && not l) && p) || e) ≡ ((w && not (l && not e)) && p)
others_in w l p true a = absurd (both_ways true a refl)
others_in true true p false a = refl
others_in true false true false a = refl
others_in true false false false a = refl
others_in false l p false a = refl

one_out : (w l p e : Bool) → p ≡ false → e ≡ true → ((w && not l) && p) ≡ ((w && not (l && not e)) && p)
one_out true true false true a b = refl
one_out true false false true a b = refl
one_out false l false true a b = refl
one_out w l true e a b = absurd (both_ways true a refl)
one_out w l false false a b = absurd (both_ways false refl b)

others_out : (w l p e : Bool) → e ≡ false → ((w && not l) && p) ≡ ((w && not (l && not e)) && p)
others_out w l p true a = absurd (both_ways true a refl)
others_out true true p false a = refl
others_out true false p false a = refl
others_out false l p false a = refl

picked_one :
    (P : Set) (W L : Set) (k m n : ℕ) (b : Bool) → k ∈ W → b ≡ P k → bits m ≡ both (except W L) P → bits n ≡ cond b (with (bits m) k) (bits m) → bits n ≡ both (except W (without L k)) P
picked_one P W L k m n true member p before more =
    more ∙ ap (λ (S : Set). with S k) before
    ∙ fun_ext (λ j. elim (cases_eq j k) [
      | inl e ↦ one_in (W j) (L j) (P j) (eqb j k) (ap W e ∙ member) (ap P e ∙ sym p) (eq-eqb j k e)
      | inr ne ↦ others_in (W j) (L j) (P j) (eqb j k) (ne_eqb j k ne)
    ])
picked_one P W L k m n false member p before more =
    more ∙ before
    ∙ fun_ext (λ j. elim (cases_eq j k) [
      | inl e ↦ one_out (W j) (L j) (P j) (eqb j k) (ap P e ∙ sym p) (eq-eqb j k e)
      | inr ne ↦ others_out (W j) (L j) (P j) (eqb j k) (ne_eqb j k ne)
    ])

picked_all :
    (P : Set) (W L : Set) (m : ℕ) → Below 32 W → ((j : ℕ) → j < 32 → L j ≡ false) → ((j : ℕ) → j < 32 → W j ≡ false → P j ≡ false) →
    bits m ≡ both (except W L) P → bits m ≡ under P 32
picked_all P W L m below gone silent before = before ∙ fun_ext (λ j. go j (W j) (ltb j 32) refl refl)
  where
    go : (j : ℕ) (w u : Bool) → W j ≡ w → ltb j 32 ≡ u → ((w && not (L j)) && P j) ≡ (P j && u)
    go j true true e l = ap (λ b. not b && P j) (gone j (ltb-true j 32 l)) ∙ sym (and-true (P j))
    go j true false e l = absurd (both_ways true (sym (lt-ltb j 32 (below j e)) ∙ l) refl)
    go j false true e l = sym (ap (λ b. b && true) (silent j (ltb-true j 32 l) e))
    go j false false e l = sym (and-false (P j))

-- a row with the members of W of which L is left
pub record Picked (f : ℕ → Sign) (W L : Set) (s : Shown) : Type 0 where
  pub members : bits s.members ≡ both (except W L) (λ k. marks (f k))
  pub against : bits s.against ≡ both (except W L) (λ k. backs (f k))
  pub members_fit : s.members < 2 ^ 32
  pub against_fit : s.against < 2 ^ 32

module _ (f : ℕ → Sign) (W : Set) where
  pub picking_none : Picked f W W (record { members = 0; against = 0 })
  picking_none = record {
    members = picked_none (λ k. marks (f k)) W;
    against = picked_none (λ k. backs (f k)) W;
    members_fit = omega arith;
    against_fit = omega arith;
  }

  pub picking_one :
      (L : Set) (k m a : ℕ) (s : Shown) (x : Sign) → k ∈ W → x ≡ f k → m < 2 ^ 32 → a < 2 ^ 32 → Picked f W L s →
      bits m ≡ cond (marks x) (with (bits s.members) k) (bits s.members) → bits a ≡ cond (backs x) (with (bits s.against) k) (bits s.against) →
      Picked f W (without L k) (record { members = m; against = a })
  picking_one L k m a s x member is fit fit' before more back = record {
    members = picked_one (λ j. marks (f j)) W L k s.members m (marks x) member (ap marks is) before.members more;
    against = picked_one (λ j. backs (f j)) W L k s.against a (backs x) member (ap backs is) before.against back;
    members_fit = fit;
    against_fit = fit';
  }

  pub picking_all :
      (L : Set) (s : Shown) → Below 32 W → ((j : ℕ) → j < 32 → L j ≡ false) → ((j : ℕ) → j < 32 → W j ≡ false → f j ≡ none) →
      Picked f W L s → s ≡ shown f
  picking_all L s below left silent all =
      row_is f s all.members_fit all.against_fit
      (picked_all (λ j. marks (f j)) W L s.members below left (λ j l o. ap marks (silent j l o)) all.members)
      (picked_all (λ j. backs (f j)) W L s.against below left (λ j l o. ap backs (silent j l o)) all.against)
