-- Balance at the nodes is balance at the cuts of a tree; falls of a function of nodes are what the tree gives the links. Assumes nothing.
use Rattle.std.proofs.Common.{◌≡◌, ℕ, ◌<◌, Bool, true, false, cond, eqb, ◌↔◌, sym, refl, ap, ◌∙◌, inl, inr}
use Rattle.std.proofs.lemmas.Bool.{cases_Bool, cond-true}
use Rattle.graphs.specs.Graph.{Graph, Set, ◌∈◌, Below, Ends, Independent, Tree}
use Rattle.graphs.specs.Cuts.{side, cut_row, loop_row, incidence}
use Rattle.graphs.specs.Groups.{Group, sub, sum, sum_over, times, fall}
use Rattle.graphs.proofs.Trails.{free_independent}
use Rattle.graphs.proofs.Classes.{tree_joins}
use Rattle.graphs.proofs.Sums.{sub_zero, times_zero, times_swap, times-diff, sum_one, over_cong, over_zero, over_swap, over-times, over-sub}
use Rattle.graphs.proofs.CutRows.{row_own, row_other, cut-incidence, row_falls}
use Rattle.graphs.proofs.LoopRows.{row_leaves, loop_sum}

module _ {M : Type 0} (G : Group M) (g : Graph) (P S : Set) (m n : ℕ) (below : Below m P) (ends : Ends n g P) (tree : Tree g P S) where
  free : Independent g S
  free = free_independent g S tree.free

  low : Below m S
  low k h = below k (tree.placed k h)

  pub nodes_cuts : (i : ℕ → M) → ((x : ℕ) → x < n → sum_over G P (λ k. times G (incidence g x k) (i k)) m ≡ G.zero) ↔ ((t : ℕ) → t ∈ S → sum_over G P (λ k. times G (cut_row g S m t k) (i k)) m ≡ G.zero)
  unfolding cut_row
  nodes_cuts i = (λ h t s. cuts t h, λ h x l. nodes x h)
    where
      cuts : (t : ℕ) → ((x : ℕ) → x < n → sum_over G P (λ k. times G (incidence g x k) (i k)) m ≡ G.zero) → sum_over G P (λ k. times G (cut_row g S m t k) (i k)) m ≡ G.zero
      cuts t h =
          over_cong G P _ _ m (λ k p. sym (cut-incidence G g (side g S m t) n k (i k) (ends k p).0 (ends k p).1))
          ∙ over_swap G P (side g S m t) (λ k x. times G (incidence g x k) (i k)) m n
          ∙ over_zero G (side g S m t) _ n (λ x l s. h x l)

      nodes : (x : ℕ) → ((t : ℕ) → t ∈ S → sum_over G P (λ k. times G (cut_row g S m t k) (i k)) m ≡ G.zero) → sum_over G P (λ k. times G (incidence g x k) (i k)) m ≡ G.zero
      nodes x h =
          over_cong G P _ _ m (λ k p. row_leaves G g S m free low (eqb x) (i k) k (tree_joins tree k p) ∙ over_cong G S _ _ m (λ t s. times_swap G (cut_row g S m t k) (incidence g x t) (i k)))
          ∙ over_swap G P S (λ k t. times G (incidence g x t) (times G (cut_row g S m t k) (i k))) m m
          ∙ over_zero G S _ m (λ t l s. over-times G P (incidence g x t) (λ k. times G (cut_row g S m t k) (i k)) m ∙ ap (times G (incidence g x t)) (h t s) ∙ times_zero G (incidence g x t))

  -- what the tree's values give a branch; at a tree branch, its own value
  given : (ℕ → M) → ℕ → M
  given v k = sum_over G S (λ t. times G (cut_row g S m t k) (v t)) m

  given-own : (v : ℕ → M) (k : ℕ) → k ∈ S → given v k ≡ v k
  unfolding given
  given-own v k s = sum_one G _ k m (low k s) (λ t d. other t d (S t) refl) ∙ cond-true (S k) _ G.zero s ∙ ap (λ r. times G r (v k)) (row_own g S m k free s)
    where
      other : (t : ℕ) → (t ≡ k → ⊥) → (b : Bool) → S t ≡ b → cond b (times G (cut_row g S m t k) (v t)) G.zero ≡ G.zero
      other t d true h = ap (λ r. times G r (v t)) (row_other g S m t k low s (λ e. d (sym e)))
      other t d false h = refl

  pub falls_links : (v : ℕ → M) → ((f : ℕ → M) × ((k : ℕ) → k ∈ P → v k ≡ fall G g f k)) ↔ ((k : ℕ) → k ∈ P → S k ≡ false → v k ≡ sum_over G S (λ t. times G (cut_row g S m t k) (v t)) m)
  unfolding cut_row given
  falls_links v = (λ h k p out. h.1 k p ∙ row_falls G g S m free low h.0 k (tree_joins tree k p) ∙ over_cong G S _ _ m (λ t s. ap (times G (cut_row g S m t k)) (sym (h.1 t (tree.placed t s)))), λ h. (height, λ k p. all h k p ∙ sym (climbs k)))
    where
      height : ℕ → M
      height x = sum_over G S (λ t. cond (side g S m t x) (v t) G.zero) m

      climbs : (k : ℕ) → fall G g height k ≡ given v k
      climbs k = over-sub G S _ _ m ∙ over_cong G S _ _ m (λ t s. sym (times-diff G (side g S m t (g.tail k)) (side g S m t (g.head k)) (v t)))

      all : ((k : ℕ) → k ∈ P → S k ≡ false → v k ≡ given v k) → (k : ℕ) → k ∈ P → v k ≡ given v k
      all h k p = elim (cases_Bool (S k)) [ inl s ↦ sym (given-own v k s) | inr out ↦ h k p out ]

  pub links_loops : (v : ℕ → M) (k : ℕ) → k ∈ P → S k ≡ false → (v k ≡ sum_over G S (λ t. times G (cut_row g S m t k) (v t)) m) ↔ (sum G (λ j. times G (loop_row g S m k j) (v j)) m ≡ G.zero)
  links_loops v k p out = (λ h. loop_sum G g S m free low v k (below k p) out ∙ ap (sub G (v k)) (sym h) ∙ G.inverse (v k), λ h. sub_zero G _ _ (sym (loop_sum G g S m free low v k (below k p) out) ∙ h))
