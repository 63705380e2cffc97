-- The branches at each node as words, and the rows that are put together from them.
use Rattle.std.proofs.Common.{◌≡◌, ℕ, suc, ◌+◌, ◌^◌, ◌<◌, Bool, true, false, not, ◌&&◌, ◌||◌, eqb, ltb, List, length, replicate, get_or, ◌⊎◌, inl, inr, sym, refl, ap, ◌∙◌, subst, add-one, slice_set, arith}
use Rattle.std.proofs.lemmas.Bool.{cases_eq, eq-eqb, ne_eqb, le-ltb, and_right}
use Rattle.std.proofs.lemmas.List.{get_or-replicate, get_or-set_same, get_or-set_other}
use mathlib.Core.Path.{fun_ext}
use Rattle.graphs.specs.Cuts.{diff}
use Rattle.graphs.specs.Graph.{Set, with}
use Rattle.topology.specs.Rows.{marks, backs, shown}
use Rattle.topology.specs.Stars.{Star}
use Rattle.networks.specs.Words.{bits, except, under}
use Rattle.networks.proofs.Bits.{bits_zero, under_in, under_out, under_none}
use Rattle.topology.proofs.Gathering.{row_is}

pub star_none : (e : ℕ → ℕ) → Star e 0 (replicate 16 0)
star_none e x h = ap bits (get_or-replicate 16 x 0 0 h) ∙ sym (under_none (λ k. eqb (e k) x))

-- the number k besides, at the node x
pub star_more : (e : ℕ → ℕ) (k x v : ℕ) (ws : List ℕ) → length ws ≡ 16 → Star e k ws → x ≡ e k → x < 16 → bits v ≡ with (bits (get_or ws x 0)) k → Star e (k + 1) (slice_set ws x v)
star_more e k x v ws long before at lt is y h = subst (λ n. bits (get_or (slice_set ws x v) y 0) ≡ under (λ j. eqb (e j) y) n) (sym (add-one k)) (go (cases_eq y x))
  where
    go : (y ≡ x) ⊎ (y ≡ x → ⊥) → bits (get_or (slice_set ws x v) y 0) ≡ under (λ j. eqb (e j) y) (suc k)
    go (inl same) =
        ap (λ i. bits (get_or (slice_set ws x v) i 0)) same
        ∙ ap bits (get_or-set_same ws x v 0 (omega arith))
        ∙ is
        ∙ ap (λ i. with (bits (get_or ws i 0)) k) (sym same)
        ∙ ap (λ S. with S k) (before y h)
        ∙ sym (under_in (λ j. eqb (e j) y) k (eq-eqb (e k) y (sym at ∙ sym same)))
    go (inr other) =
        ap bits (get_or-set_other ws x y v 0 other)
        ∙ before y h
        ∙ sym (under_out (λ j. eqb (e j) y) k (ne_eqb (e k) y (λ same. other (sym same ∙ sym at))))

-- nothing is reached through no node
pub reach_none : (S : Set) (n k : ℕ) → bits 0 k ≡ (S k && ltb n 0)
reach_none S n k = bits_zero k ∙ sym (and_right (S k) (ltb n 0) (le-ltb n 0 (omega arith)))

-- the row of what leaves and what enters
pub row_across : (l e m b : ℕ) (a c : Set) → bits l ≡ under a 32 → bits e ≡ under c 32 → ((k : ℕ) → bits m k ≡ (except (bits l) (bits e) k || bits b k)) → bits b ≡ except (bits e) (bits l) → m < 2 ^ 32 → b < 2 ^ 32
    → record { members = m; against = b } ≡ shown (λ k. diff (a k) (c k))
row_across l e m b a c left right more back fits fits' =
    row_is (λ k. diff (a k) (c k)) (record { members = m; against = b }) fits fits'
    (fun_ext (λ k. more k ∙ ap (λ S. except (bits l) (bits e) k || S k) back ∙ (λ i. except (left i) (right i) k || except (right i) (left i) k) ∙ either (a k) (c k) (ltb k 32)))
    (fun_ext (λ k. ap (λ S. S k) back ∙ (λ i. except (right i) (left i) k) ∙ alone (a k) (c k) (ltb k 32)))
  where
    either : (x y t : Bool) → (((x && t) && not (y && t)) || ((y && t) && not (x && t))) ≡ (marks (diff x y) && t)
    either true true true = refl
    either true true false = refl
    either true false true = refl
    either true false false = refl
    either false true true = refl
    either false true false = refl
    either false false true = refl
    either false false false = refl

    alone : (x y t : Bool) → ((y && t) && not (x && t)) ≡ (backs (diff x y) && t)
    alone true true true = refl
    alone true true false = refl
    alone true false true = refl
    alone true false false = refl
    alone false true true = refl
    alone false true false = refl
    alone false false true = refl
    alone false false false = refl
