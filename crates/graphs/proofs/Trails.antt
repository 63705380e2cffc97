-- Walks shortened to trails; loop-free sets are those of which no member has its ends joined by the others. Assumes nothing.
use Rattle.std.proofs.Common.{◌≡◌, ℕ, false, cond, eqb, ◌⊎◌, ◌∷◌, sym, refl, ap, ◌∙◌, subst, inl, inr}
use mathlib.Core.Bool.{false≢true}
use Rattle.std.proofs.lemmas.Bool.{eqb-true, eqb-false, eq-eqb, cases_eq, cases_Bool, or_cases, or_left, or_parts, both_ways}
use Rattle.graphs.specs.Graph.{Graph, Set, ◌∈◌, ◌⊆◌, with, without, Walk, Spans, here, along, against, passed, listed, Distinct, Trail, Loop, LoopAlong, LoopFree, Independent, plus, way_around}
use Rattle.graphs.proofs.Sets.{out, in_with, with_more, with_cases, without_less, without_not, in_without}
use Rattle.graphs.proofs.Walks.{from, then, back, one_along, one_against, into, passed-from, passed-into, passed-member, way-into}

-- a trail from a to c
abbrev pub TrailFrom : Graph → Set → ℕ → ℕ → Type 0
TrailFrom g S a c = (w : Walk g S a c) × Trail w

start_at : {g : Graph} {S : Set} {a b c : ℕ} → a ≡ b → TrailFrom g S b c → TrailFrom g S a c
start_at e u = (from e u.0, subst Distinct (sym (passed-from e u.0)) u.1)

-- what a trail does from where it passes k on: a trail from either end of k
from_tail : {g : Graph} {S : Set} {a c : ℕ} (k : ℕ) (w : Walk g S a c) → Trail w → k ∈ listed (passed w) → TrailFrom g S (g.tail k) c
unfolding passed listed Distinct
from_tail k (here e) t h = absurd (false≢true h)
from_tail {g} k (along j i e w) t h = elim (or_cases (eqb k j) (listed (passed w) k) h) [ inl d ↦ (along j i (ap g.tail (eqb-true k j d)) w, t) | inr u ↦ from_tail k w t.1 u ]
from_tail {g} k (against j i e w) t h = elim (or_cases (eqb k j) (listed (passed w) k) h) [ inl d ↦ start_at (ap g.tail (eqb-true k j d)) (w, t.1) | inr u ↦ from_tail k w t.1 u ]

from_head : {g : Graph} {S : Set} {a c : ℕ} (k : ℕ) (w : Walk g S a c) → Trail w → k ∈ listed (passed w) → TrailFrom g S (g.head k) c
unfolding passed listed Distinct
from_head k (here e) t h = absurd (false≢true h)
from_head {g} k (along j i e w) t h = elim (or_cases (eqb k j) (listed (passed w) k) h) [ inl d ↦ start_at (ap g.head (eqb-true k j d)) (w, t.1) | inr u ↦ from_head k w t.1 u ]
from_head {g} k (against j i e w) t h = elim (or_cases (eqb k j) (listed (passed w) k) h) [ inl d ↦ (against j i (ap g.head (eqb-true k j d)) w, t) | inr u ↦ from_head k w t.1 u ]

-- every walk can be shortened to a trail
pub shorten : {g : Graph} {S : Set} {a c : ℕ} → Walk g S a c → TrailFrom g S a c
unfolding passed Distinct
shorten (here e) = (here e, tt)
shorten (along k i e w) =
    let u = shorten w in
    elim (cases_Bool (listed (passed u.0) k)) [ inl h ↦ start_at e (from_tail k u.0 u.1 h) | inr h ↦ (along k i e u.0, (h, u.1)) ]
shorten (against k i e w) =
    let u = shorten w in
    elim (cases_Bool (listed (passed u.0) k)) [ inl h ↦ start_at e (from_head k u.0 u.1 h) | inr h ↦ (against k i e u.0, (h, u.1)) ]

-- a walk that does not pass k is a walk without k
pub avoiding : {g : Graph} {S : Set} {a c : ℕ} (k : ℕ) (w : Walk g S a c) → listed (passed w) k ≡ false → Walk g (without S k) a c
unfolding passed listed
avoiding k (here e) h = here e
avoiding {g} {S} k (along j i e w) h =
    let p = or_parts (eqb k j) (listed (passed w) k) h in
    along j (in_without S k j i (λ d. eqb-false k j p.0 (sym d))) e (avoiding k w p.1)
avoiding {g} {S} k (against j i e w) h =
    let p = or_parts (eqb k j) (listed (passed w) k) h in
    against j (in_without S k j i (λ d. eqb-false k j p.0 (sym d))) e (avoiding k w p.1)

-- a walk over S joins the ends of k, which is not in S: then along k and back
pub loop_along : {g : Graph} {S : Set} (k : ℕ) → S k ≡ false → Spans g S k → LoopAlong g S k
unfolding Distinct
loop_along {g} {S} k h w =
    let u = shorten (back w) in
    record { back = u.0; once = (out (listed (passed u.0) k) (λ e. both_ways (S k) h (passed-member u.0 k e)), u.1) }

-- the same loop in a larger set, passed the same way
unfoldable pub wider : {g : Graph} {S R : Set} {k : ℕ} → S ⊆ R → LoopAlong g S k → LoopAlong g R k
wider {k = k} f l = record { back = into f l.back; once = subst (λ ks. Distinct (k ∷ ks)) (sym (passed-into f l.back)) l.once }

pub wider-way : {g : Graph} {S R : Set} {k : ℕ} (f : S ⊆ R) (l : LoopAlong g S k) (j : ℕ) → way_around (wider f l) j ≡ way_around l j
unfolding wider
wider-way {k = k} f l j = ap (cond (eqb j k) plus) (way-into f l.back j)

-- and such a loop is a loop
pub along_loop : {g : Graph} {S : Set} (k : ℕ) (R : Set) → k ∈ R → S ⊆ R → LoopAlong g S k → Loop g R
unfolding passed listed Distinct
along_loop {g} {S} k R i f l =
    let v : LoopAlong g R k = wider f l in
    record {
      start = g.tail k;
      around = along k i refl v.back;
      branch = k;
      passes = or_left (eqb k k) (listed (passed v.back) k) (eq-eqb k k refl);
      once = v.once;
    }

-- loop-free sets, both ways
pub free_independent : (g : Graph) (S : Set) → LoopFree g S → Independent g S
free_independent g S free k i w = free (along_loop k S i (without_less S k) (loop_along k (out (without S k k) (λ h. without_not S k k h refl)) w))

round : {g : Graph} {S : Set} {a c : ℕ} (j : ℕ) → Independent g S → (w : Walk g S a c) → c ≡ a → Trail w → j ∈ listed (passed w) → ⊥
unfolding passed listed Distinct
round j f (here e) d t h = false≢true h
round j f (along k i e w) d t h = f k i (from (sym (d ∙ e)) (back (avoiding k w t.0)))
round j f (against k i e w) d t h = f k i (then (avoiding k w t.0) (here (d ∙ e)))

pub independent_free : (g : Graph) (S : Set) → Independent g S → LoopFree g S
independent_free g S f l = round l.branch f l.around refl l.once l.passes

-- from a to c over S alone, or over S and once over k
Past : Graph → Set → ℕ → ℕ → ℕ → Type 0
Past g S k a c = Walk g S a c ⊎ ((Walk g S a (g.tail k) × Walk g S (g.head k) c) ⊎ (Walk g S a (g.head k) × Walk g S (g.tail k) c))

across : {g : Graph} (S : Set) (k : ℕ) {a c : ℕ} → Walk g (with S k) a c → Past g S k a c
unfolding Past
across S k (here e) = inl (here e)
across {g} S k {a} {c} (along j m e w) = go (with_cases S k j m) (across S k w)
  where
    go : (j ∈ S) ⊎ (j ≡ k) → Past g S k (g.head j) c → Past g S k a c
    go (inl i) (inl u) = inl (along j i e u)
    go (inl i) (inr (inl u)) = inr (inl (along j i e u.0, u.1))
    go (inl i) (inr (inr u)) = inr (inr (along j i e u.0, u.1))
    go (inr d) (inl u) = inr (inl (here (e ∙ ap g.tail d), from (sym (ap g.head d)) u))
    go (inr d) (inr (inl u)) = inr (inl (here (e ∙ ap g.tail d), u.1))
    go (inr d) (inr (inr u)) = inl (from (e ∙ ap g.tail d) u.1)
across {g} S k {a} {c} (against j m e w) = go (with_cases S k j m) (across S k w)
  where
    go : (j ∈ S) ⊎ (j ≡ k) → Past g S k (g.tail j) c → Past g S k a c
    go (inl i) (inl u) = inl (against j i e u)
    go (inl i) (inr (inl u)) = inr (inl (against j i e u.0, u.1))
    go (inl i) (inr (inr u)) = inr (inr (against j i e u.0, u.1))
    go (inr d) (inl u) = inr (inr (here (e ∙ ap g.head d), from (sym (ap g.tail d)) u))
    go (inr d) (inr (inl u)) = inl (from (e ∙ ap g.head d) u.1)
    go (inr d) (inr (inr u)) = inr (inr (here (e ∙ ap g.head d), u.1))

-- keeping a branch whose ends are not joined
pub keep_independent : (g : Graph) (S : Set) (k : ℕ) → Independent g S → (Spans g S k → ⊥) → Independent g (with S k)
unfolding Past
keep_independent g S k f h j m w = go (cases_eq j k)
  where
    alone : j ≡ k → without (with S k) j ⊆ S
    alone e i l = elim (with_cases S k i (without_less (with S k) j i l)) [ inl u ↦ u | inr d ↦ absurd (without_not (with S k) j i l (d ∙ sym e)) ]

    moved : without (with S k) j ⊆ with (without S j) k
    moved i l = elim (with_cases S k i (without_less (with S k) j i l)) [ inl u ↦ with_more (without S j) k i (in_without S j i u (without_not (with S k) j i l)) | inr d ↦ subst (λ n. n ∈ with (without S j) k) (sym d) (in_with (without S j) k) ]

    less : without S j ⊆ S
    less = without_less S j

    other : j ∈ S → Past g (without S j) k (g.tail j) (g.head j) → ⊥
    other i (inl u) = f j i u
    other i (inr (inl u)) = h (then (back (into less u.0)) (then (one_along j i) (back (into less u.1))))
    other i (inr (inr u)) = h (then (into less u.1) (then (one_against j i) (into less u.0)))

    go : (j ≡ k) ⊎ (j ≡ k → ⊥) → ⊥
    go (inl e) = h (subst (λ i. Walk g S (g.tail i) (g.head i)) e (into (alone e) w))
    go (inr d) = elim (with_cases S k j m) [ inl i ↦ other i (across (without S j) k (into moved w)) | inr e ↦ d e ]

pub keep_free : (g : Graph) (S : Set) (k : ℕ) → LoopFree g S → (Spans g S k → ⊥) → LoopFree g (with S k)
keep_free g S k f h = independent_free g (with S k) (keep_independent g S k (free_independent g S f) h)

-- a part of a loop-free set is loop-free
pub free_less : (g : Graph) (S R : Set) → S ⊆ R → LoopFree g R → LoopFree g S
free_less g S R f free l = free (record {
  start = l.start;
  around = into f l.around;
  branch = l.branch;
  passes = subst (λ ks. l.branch ∈ listed ks) (sym (passed-into f l.around)) l.passes;
  once = subst Distinct (sym (passed-into f l.around)) l.once;
})
