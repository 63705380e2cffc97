-- The cut rows of a loop-free set: every fall over a joined branch is the sum of those over the set's branches, by the rows. Assumes nothing.
use Rattle.std.proofs.Common.{◌≡◌, ℕ, ◌<◌, Bool, true, false, cond, eqb, ◌↔◌, sym, refl, ap, ◌∙◌, subst, ap₂, inl, inr}
use mathlib.Core.Bool.{false≢true}
use Rattle.std.proofs.lemmas.Bool.{eq-eqb, ne_eqb, cases_eq, cond-true, cond-false, and_parts, and_from}
use Rattle.graphs.specs.Graph.{Graph, Set, ◌∈◌, without, Below, Walk, Spans, here, along, against, Independent, Sign, plus, none, minus}
use Rattle.graphs.specs.Labels.{label}
use Rattle.graphs.specs.Cuts.{cut, just_one, diff, leaves, side, cut_row, incidence}
use Rattle.graphs.specs.Groups.{Group, sub, sum, sum_over, times, fall}
use Rattle.graphs.proofs.Sets.{in_without}
use Rattle.graphs.proofs.Labels.{label_ends, not-joins}
use Rattle.graphs.proofs.Sums.{unit_left, inverse_left, neg_sub, sub-sub, times-diff, sum_cong, sum_zero, sum-add, sum_neg, sum_one, sum_more}

-- the side of t's tail
pub side_tail : (g : Graph) (S : Set) (m t : ℕ) → g.tail t ∈ side g S m t
side_tail g S m t = eq-eqb (label g (without S t) m (g.tail t)) (label g (without S t) m (g.tail t)) refl

pub side_head : (g : Graph) (S : Set) (m t : ℕ) → Independent g S → t ∈ S → side g S m t (g.head t) ≡ false
side_head g S m t f h = not-joins g (without S t) m (g.tail t) (g.head t) (f t h)

pub side_same : (g : Graph) (S : Set) (m t k : ℕ) → Below m S → k ∈ S → (k ≡ t → ⊥) → side g S m t (g.tail k) ≡ side g S m t (g.head k)
side_same g S m t k b h d = ap (eqb (label g (without S t) m (g.tail t))) (label_ends g (without S t) m k (b k h) (in_without S t k h d))

pub diff_same : (a b : Bool) → a ≡ b → diff a b ≡ none
diff_same true b e = ap (diff true) (sym e)
diff_same false b e = ap (diff false) (sym e)

-- the row at the members of S
pub row_own : (g : Graph) (S : Set) (m t : ℕ) → Independent g S → t ∈ S → cut_row g S m t t ≡ plus
unfolding cut_row
row_own g S m t f h = ap₂ diff (side_tail g S m t) (side_head g S m t f h)

pub row_other : (g : Graph) (S : Set) (m t k : ℕ) → Below m S → k ∈ S → (k ≡ t → ⊥) → cut_row g S m t k ≡ none
unfolding cut_row
row_other g S m t k b h d = diff_same _ _ (side_same g S m t k b h d)

-- the cut of a set of nodes is where its row is not none
pub cut_row_lem : (g : Graph) (P N : Set) (k : ℕ) → k ∈ cut g P N ↔ ((k ∈ P) × (leaves g N k ≡ none → ⊥))
cut_row_lem g P N k = (λ h. ((and_parts (P k) (just_one (N (g.tail k)) (N (g.head k))) h).0, there (N (g.tail k)) (N (g.head k)) (and_parts (P k) (just_one (N (g.tail k)) (N (g.head k))) h).1), λ h. and_from (P k) (just_one (N (g.tail k)) (N (g.head k))) h.0 (again (N (g.tail k)) (N (g.head k)) h.1))
  where
    is_none : Sign → Bool
    is_none plus = false
    is_none none = true
    is_none minus = false

    there : (a b : Bool) → just_one a b ≡ true → diff a b ≡ none → ⊥
    there true true h e = false≢true h
    there true false h e = false≢true (ap is_none e)
    there false true h e = false≢true (ap is_none e)
    there false false h e = false≢true h

    again : (a b : Bool) → (diff a b ≡ none → ⊥) → just_one a b ≡ true
    again true true h = absurd (h refl)
    again true false h = refl
    again false true h = refl
    again false false h = absurd (h refl)

-- the cut of t's side holds no member of S but t
pub cut_alone : (g : Graph) (P S : Set) (m t k : ℕ) → Below m S → k ∈ S → k ∈ cut g P (side g S m t) → k ≡ t
unfolding cut_row
cut_alone g P S m t k b h i = elim (cases_eq k t) [ inl e ↦ e | inr d ↦ absurd (((cut_row_lem g P (side g S m t) k).0 i).1 (row_other g S m t k b h d)) ]

module _ {M : Type 0} (G : Group M) where
  -- incidence rows summed over a set of nodes
  pub cut-incidence : (g : Graph) (N : Set) (n k : ℕ) (u : M) → g.tail k < n → g.head k < n → sum_over G N (λ x. times G (incidence g x k) u) n ≡ times G (leaves g N k) u
  cut-incidence g N n k u lt lh =
      sum_cong G _ (λ x. G.add (at (g.tail k) x) (G.neg (at (g.head k) x))) n (λ x. one (N x) (eqb x (g.tail k)) (eqb x (g.head k)))
      ∙ sum-add G (at (g.tail k)) (λ x. G.neg (at (g.head k) x)) n
      ∙ ap₂ G.add (total (g.tail k) lt) (sum_neg G (at (g.head k)) n ∙ ap G.neg (total (g.head k) lh))
      ∙ sym (times-diff G (N (g.tail k)) (N (g.head k)) u)
    where
      at : ℕ → ℕ → M
      at a x = cond (N x) (cond (eqb x a) u G.zero) G.zero

      one : (s a b : Bool) → cond s (times G (diff a b) u) G.zero ≡ G.add (cond s (cond a u G.zero) G.zero) (G.neg (cond s (cond b u G.zero) G.zero))
      one true a b = times-diff G a b u
      one false a b = sym (G.inverse G.zero)

      both_zero : (s : Bool) → cond s G.zero G.zero ≡ G.zero
      both_zero true = refl
      both_zero false = refl

      total : (a : ℕ) → a < n → sum G (at a) n ≡ cond (N a) u G.zero
      total a l = sum_one G (at a) a n l (λ x d. ap (λ b. cond (N x) (cond b u G.zero) G.zero) (ne_eqb x a d) ∙ both_zero (N x)) ∙ ap (λ b. cond (N a) (cond b u G.zero) G.zero) (eq-eqb a a refl)

  -- the fall over a branch, by incidence
  pub fall_incidence : (g : Graph) (f : ℕ → M) (n k : ℕ) → g.tail k < n → g.head k < n → sum G (λ x. times G (incidence g x k) (f x)) n ≡ fall G g f k
  fall_incidence g f n k lt lh =
      sum_cong G _ (λ x. G.add (at (g.tail k) x) (G.neg (at (g.head k) x))) n (λ x. times-diff G (eqb x (g.tail k)) (eqb x (g.head k)) (f x))
      ∙ sum-add G (at (g.tail k)) (λ x. G.neg (at (g.head k) x)) n
      ∙ ap₂ G.add (total (g.tail k) lt) (sum_neg G (at (g.head k)) n ∙ ap G.neg (total (g.head k) lh))
    where
      at : ℕ → ℕ → M
      at a x = cond (eqb x a) (f x) G.zero

      total : (a : ℕ) → a < n → sum G (at a) n ≡ f a
      total a l = sum_one G (at a) a n l (λ x d. cond-false (eqb x a) (f x) G.zero (ne_eqb x a d)) ∙ cond-true (eqb a a) (f a) G.zero (eq-eqb a a refl)

  -- leaving a side or entering it
  leave : (s : Bool) (d : M) → times G (diff true s) d ≡ G.add d (times G (diff false s) d)
  leave true d = sym (G.inverse d)
  leave false d = sym (G.unit d)

  enter : (s : Bool) (d : M) → times G (diff false s) d ≡ G.add (G.neg d) (times G (diff true s) d)
  enter true d = sym (G.unit (G.neg d))
  enter false d = sym (inverse_left G d)

  module _ (g : Graph) (S : Set) (m : ℕ) (free : Independent g S) (below : Below m S) (f : ℕ → M) where
    abbrev part : ℕ → ℕ → ℕ → M
    part a c t = cond (S t) (times G (diff (side g S m t a) (side g S m t c)) (fall G g f t)) G.zero

    -- from a to b: the parts differ at k alone
    differ : (a b c k : ℕ) (x : M) → part a c k ≡ G.add x (part b c k) → ((t : ℕ) → t ∈ S → (t ≡ k → ⊥) → side g S m t a ≡ side g S m t b) → (t : ℕ) → part a c t ≡ G.add (cond (eqb t k) x G.zero) (part b c t)
    differ a b c k x own others t = elim (cases_eq t k) [ inl e ↦ subst (λ i. part a c i ≡ G.add (cond (eqb i k) x G.zero) (part b c i)) (sym e) (own ∙ ap (λ y. G.add y (part b c k)) (sym (cond-true (eqb k k) x G.zero (eq-eqb k k refl)))) | inr d ↦ away d (S t) refl ∙ ap (λ y. G.add y (part b c t)) (sym (cond-false (eqb t k) x G.zero (ne_eqb t k d))) ]
      where
        away : (t ≡ k → ⊥) → (s : Bool) → S t ≡ s → part a c t ≡ G.add G.zero (part b c t)
        away d true i = ap (λ z. cond (S t) (times G (diff z (side g S m t c)) (fall G g f t)) G.zero) (others t i d) ∙ sym (unit_left G (part b c t))
        away d false i = cond-false (S t) _ G.zero i ∙ sym (cond-false (S t) _ G.zero i) ∙ sym (unit_left G (part b c t))

    leaving : (a b c k : ℕ) → k ∈ S → side g S m k a ≡ true → side g S m k b ≡ false → part a c k ≡ G.add (fall G g f k) (part b c k)
    leaving a b c k i p q =
        cond-true (S k) _ G.zero i ∙ ap (λ z. times G (diff z (side g S m k c)) (fall G g f k)) p ∙ leave (side g S m k c) (fall G g f k)
        ∙ ap (G.add (fall G g f k)) (sym (cond-true (S k) _ G.zero i ∙ ap (λ z. times G (diff z (side g S m k c)) (fall G g f k)) q))

    entering : (a b c k : ℕ) → k ∈ S → side g S m k a ≡ false → side g S m k b ≡ true → part a c k ≡ G.add (G.neg (fall G g f k)) (part b c k)
    entering a b c k i p q =
        cond-true (S k) _ G.zero i ∙ ap (λ z. times G (diff z (side g S m k c)) (fall G g f k)) p ∙ enter (side g S m k c) (fall G g f k)
        ∙ ap (G.add (G.neg (fall G g f k))) (sym (cond-true (S k) _ G.zero i ∙ ap (λ z. times G (diff z (side g S m k c)) (fall G g f k)) q))

    staying : (a c t : ℕ) → a ≡ c → part a c t ≡ G.zero
    staying a c t e = ap (λ s. cond (S t) (times G s (fall G g f t)) G.zero) (diff_same _ _ (ap (side g S m t) e)) ∙ either (S t)
      where
        either : (s : Bool) → cond s G.zero G.zero ≡ G.zero
        either true = refl
        either false = refl

    -- along a walk over S a function falls by the sum of its falls over the branches between whose sides the walk leads
    pub walk_falls : {a c : ℕ} → Walk g S a c → sub G (f a) (f c) ≡ sum_over G S (λ t. times G (diff (side g S m t a) (side g S m t c)) (fall G g f t)) m
    walk_falls {a} {c} (here e) = ap (λ x. sub G (f x) (f c)) e ∙ G.inverse (f c) ∙ sym (sum_zero G (part a c) m (λ t l. staying a c t e))
    walk_falls {a} {c} (along k i e w) =
        ap (λ x. sub G (f x) (f c)) e ∙ sub-sub G (f (g.tail k)) (f (g.head k)) (f c) ∙ ap (G.add (fall G g f k)) (walk_falls w)
        ∙ sym (sum_more G (fall G g f k) (part (g.head k) c) (part a c) k m (below k i) (differ a (g.head k) c k (fall G g f k) (leaving a (g.head k) c k i (ap (side g S m k) e ∙ side_tail g S m k) (side_head g S m k free i)) (λ t j d. ap (side g S m t) e ∙ side_same g S m t k below i (λ u. d (sym u)))))
    walk_falls {a} {c} (against k i e w) =
        ap (λ x. sub G (f x) (f c)) e ∙ sub-sub G (f (g.head k)) (f (g.tail k)) (f c) ∙ ap₂ G.add (sym (neg_sub G (f (g.tail k)) (f (g.head k)))) (walk_falls w)
        ∙ sym (sum_more G (G.neg (fall G g f k)) (part (g.tail k) c) (part a c) k m (below k i) (differ a (g.tail k) c k (G.neg (fall G g f k)) (entering a (g.tail k) c k i (ap (side g S m k) e ∙ side_head g S m k free i) (side_tail g S m k)) (λ t j d. ap (side g S m t) e ∙ sym (side_same g S m t k below i (λ u. d (sym u))))))

    -- the identity of the cut rows
    pub row_falls : (k : ℕ) → Spans g S k → fall G g f k ≡ sum_over G S (λ t. times G (cut_row g S m t k) (fall G g f t)) m
    unfolding cut_row
    row_falls k w = walk_falls w
