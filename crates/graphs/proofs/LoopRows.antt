-- The loop of a link: its row, and that every function of nodes falls by nothing around it. Assumes nothing.
use Rattle.std.proofs.Common.{◌≡◌, ℕ, ◌<◌, Bool, true, false, cond, eqb, ◌⊎◌, sym, refl, ap, ◌∙◌, subst, ap₂, inl, inr}
use Rattle.std.proofs.lemmas.Bool.{eqb-true, eq-eqb, ne_eqb, cases_eq, cond-true, cond-false, both_ways}
use Rattle.graphs.specs.Graph.{Graph, Set, ◌∈◌, without, Below, Walk, Spans, here, along, against, passed, way, listed, Distinct, Trail, LoopAlong, way_around, Independent, plus, none, minus}
use Rattle.graphs.specs.Labels.{label}
use Rattle.graphs.specs.Cuts.{diff, leaves, side, cut_row, turned, loop_row}
use Rattle.graphs.specs.Groups.{Group, sub, sum, sum_over, times, fall}
use Rattle.graphs.proofs.Sets.{without_less}
use Rattle.graphs.proofs.Labels.{walk_label}
use Rattle.graphs.proofs.Trails.{avoiding}
use Rattle.graphs.proofs.Sums.{unit_left, neg_zero, times-turned, times-diff, sum_cong, sum-add, sum_neg, sum_at}
use Rattle.graphs.proofs.CutRows.{side_tail, side_head, side_same, diff_same, row_falls}

-- a walk passes only members
way-none : {g : Graph} {S : Set} {a c : ℕ} (w : Walk g S a c) (t : ℕ) → S t ≡ false → way w t ≡ none
unfolding way
way-none (here e) t h = refl
way-none {g} {S} (along k i e w) t h = cond-false (eqb t k) plus (way w t) (ne_eqb t k (λ d. both_ways (S t) h (subst (λ j. j ∈ S) (sym d) i))) ∙ way-none w t h
way-none {g} {S} (against k i e w) t h = cond-false (eqb t k) minus (way w t) (ne_eqb t k (λ d. both_ways (S t) h (subst (λ j. j ∈ S) (sym d) i))) ∙ way-none w t h

-- a trail over a loop-free set passes t from the side that it begins on to the side that it ends on
way-side : {g : Graph} {S : Set} {a c : ℕ} (m t : ℕ) → Independent g S → Below m S → t ∈ S → (w : Walk g S a c) → Trail w → way w t ≡ diff (side g S m t a) (side g S m t c)
unfolding way passed Distinct
way-side {g} {S} m t f b h (here e) u = sym (diff_same _ _ (ap (side g S m t) e))
way-side {g} {S} {a} {c} m t f b h (along k i e w) u = go (cases_eq t k) (way-side m t f b h w u.1)
  where
    go : (t ≡ k) ⊎ (t ≡ k → ⊥) → way w t ≡ diff (side g S m t (g.head k)) (side g S m t c) → cond (eqb t k) plus (way w t) ≡ diff (side g S m t a) (side g S m t c)
    go (inr d) r = cond-false (eqb t k) plus (way w t) (ne_eqb t k d) ∙ r ∙ ap (λ z. diff z (side g S m t c)) (sym (side_same g S m t k b i (λ v. d (sym v))) ∙ ap (side g S m t) (sym e))
    go (inl d) r = cond-true (eqb t k) plus (way w t) (eq-eqb t k d) ∙ sym (ap₂ diff (ap (side g S m t) (e ∙ ap g.tail (sym d)) ∙ side_tail g S m t) (sym (ap (eqb (label g (without S t) m (g.tail t))) (walk_label m (λ j v. b j (without_less S t j v)) (avoiding t w (subst (λ j. listed (passed w) j ≡ false) (sym d) u.0)))) ∙ ap (λ j. side g S m t (g.head j)) (sym d) ∙ side_head g S m t f h))
way-side {g} {S} {a} {c} m t f b h (against k i e w) u = go (cases_eq t k) (way-side m t f b h w u.1)
  where
    go : (t ≡ k) ⊎ (t ≡ k → ⊥) → way w t ≡ diff (side g S m t (g.tail k)) (side g S m t c) → cond (eqb t k) minus (way w t) ≡ diff (side g S m t a) (side g S m t c)
    go (inr d) r = cond-false (eqb t k) minus (way w t) (ne_eqb t k d) ∙ r ∙ ap (λ z. diff z (side g S m t c)) (side_same g S m t k b i (λ v. d (sym v)) ∙ ap (side g S m t) (sym e))
    go (inl d) r = cond-true (eqb t k) minus (way w t) (eq-eqb t k d) ∙ sym (ap₂ diff (ap (side g S m t) (e ∙ ap g.head (sym d)) ∙ side_head g S m t f h) (sym (ap (eqb (label g (without S t) m (g.tail t))) (walk_label m (λ j v. b j (without_less S t j v)) (avoiding t w (subst (λ j. listed (passed w) j ≡ false) (sym d) u.0)))) ∙ ap (λ j. side g S m t (g.tail j)) (sym d) ∙ side_tail g S m t))

diff-turned : (a b : Bool) → diff b a ≡ turned (diff a b)
diff-turned true true = refl
diff-turned true false = refl
diff-turned false true = refl
diff-turned false false = refl

-- the loop of a link passes each branch as the loop row says
pub loop_row_lem : (g : Graph) (S : Set) (m k : ℕ) → Independent g S → Below m S → (l : LoopAlong g S k) (j : ℕ) → way_around l j ≡ loop_row g S m k j
unfolding loop_row cut_row Distinct
loop_row_lem g S m k f b l j = ap (cond (eqb j k) plus) (go (S j) refl)
  where
    go : (s : Bool) → S j ≡ s → way l.back j ≡ cond (S j) (turned (diff (side g S m j (g.tail k)) (side g S m j (g.head k)))) none
    go true h = way-side m j f b h l.back l.once.1 ∙ diff-turned (side g S m j (g.tail k)) (side g S m j (g.head k)) ∙ sym (cond-true (S j) _ none h)
    go false h = way-none l.back j h ∙ sym (cond-false (S j) _ none h)

module _ {M : Type 0} (G : Group M) (g : Graph) (S : Set) (m : ℕ) (free : Independent g S) (below : Below m S) where
  -- a sum by a loop row: the link's part less those that the cut rows give
  pub loop_sum : (v : ℕ → M) (k : ℕ) → k < m → S k ≡ false → sum G (λ j. times G (loop_row g S m k j) (v j)) m ≡ sub G (v k) (sum_over G S (λ t. times G (cut_row g S m t k) (v t)) m)
  unfolding loop_row
  loop_sum v k l out =
      sum_cong G _ (λ j. G.add (cond (eqb j k) (v k) G.zero) (G.neg (tree j))) m (λ j. at j (eqb j k) refl)
      ∙ sum-add G (λ j. cond (eqb j k) (v k) G.zero) (λ j. G.neg (tree j)) m
      ∙ ap₂ G.add (sum_at G (v k) k m l) (sum_neg G tree m)
    where
      tree : ℕ → M
      tree t = cond (S t) (times G (cut_row g S m t k) (v t)) G.zero

      branch : (j : ℕ) (s : Bool) → times G (cond s (turned (cut_row g S m j k)) none) (v j) ≡ G.add G.zero (G.neg (cond s (times G (cut_row g S m j k) (v j)) G.zero))
      branch j true = times-turned G (cut_row g S m j k) (v j) ∙ sym (unit_left G _)
      branch j false = sym (G.inverse G.zero)

      link : times G plus (v k) ≡ G.add (v k) (G.neg (tree k))
      link = sym (ap (λ z. G.add (v k) (G.neg z)) (cond-false (S k) _ G.zero out) ∙ ap (G.add (v k)) (neg_zero G) ∙ G.unit (v k))

      at : (j : ℕ) (b : Bool) → eqb j k ≡ b → times G (cond b plus (cond (S j) (turned (cut_row g S m j k)) none)) (v j) ≡ G.add (cond b (v k) G.zero) (G.neg (tree j))
      at j true e = subst (λ i. times G plus (v i) ≡ G.add (v k) (G.neg (tree i))) (sym (eqb-true j k e)) link
      at j false e = branch j (S j)

  -- around the loop of a link every function of nodes falls by nothing
  pub loop_falls : (f : ℕ → M) (k : ℕ) → k < m → S k ≡ false → Spans g S k → sum G (λ j. times G (loop_row g S m k j) (fall G g f j)) m ≡ G.zero
  loop_falls f k l out w = loop_sum (fall G g f) k l out ∙ ap (sub G (fall G g f k)) (sym (row_falls G g S m free below f k w)) ∙ G.inverse (fall G g f k)

  -- how the branches stand to a set of nodes: each joined branch by the members of S, and nothing around a loop
  node_falls : (N : Set) (u : M) (k : ℕ) → times G (leaves g N k) u ≡ fall G g (λ x. cond (N x) u G.zero) k
  node_falls N u k = times-diff G (N (g.tail k)) (N (g.head k)) u

  pub row_leaves : (N : Set) (u : M) (k : ℕ) → Spans g S k → times G (leaves g N k) u ≡ sum_over G S (λ t. times G (cut_row g S m t k) (times G (leaves g N t) u)) m
  row_leaves N u k w = node_falls N u k ∙ row_falls G g S m free below (λ x. cond (N x) u G.zero) k w ∙ sum_cong G _ _ m (λ t. ap (λ y. cond (S t) (times G (cut_row g S m t k) y) G.zero) (sym (node_falls N u t)))

  pub loop_leaves : (N : Set) (u : M) (k : ℕ) → k < m → S k ≡ false → Spans g S k → sum G (λ j. times G (loop_row g S m k j) (times G (leaves g N j) u)) m ≡ G.zero
  loop_leaves N u k l out w = sum_cong G _ _ m (λ j. ap (times G (loop_row g S m k j)) (node_falls N u j)) ∙ loop_falls (λ x. cond (N x) u G.zero) k l out w

  -- loop rows and cut rows
  pub loop_cut : (u : M) (t k : ℕ) → k < m → S k ≡ false → Spans g S k → sum G (λ j. times G (loop_row g S m k j) (times G (cut_row g S m t j) u)) m ≡ G.zero
  unfolding cut_row
  loop_cut u t k l out w = loop_leaves (side g S m t) u k l out w
