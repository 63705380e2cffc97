-- Node laws and potentials of a plan, seen from a tree of it: sums over cuts, and sums of tree voltages. Assumes nothing.
use Rattle.std.proofs.Common.{◌≡◌, ℕ, ◌<◌, Bool, true, false, ◌↔◌, sym, refl, ap, ◌∙◌, ap₂}
use Rattle.arithmetic.specs.Ops.{Ops, Exact}
use Rattle.sheet.specs.declared.plan.Plan.{Plan}
use Rattle.graphs.specs.Graph.{Set, ◌∈◌, Below, Tree}
use Rattle.graphs.specs.Cuts.{cut_row, incidence}
use Rattle.graphs.specs.Joint.{Balances, Rows}
use Rattle.graphs.proofs.Joint.{theory}
use Rattle.linear.specs.Systems.{sum}
use Rattle.linear.proofs.Ring.{ring}
use Rattle.linear.proofs.Sums.{sum_only}
use Rattle.networks.specs.Networks.{graph_of, placed}
use Rattle.networks.proofs.Networks.{placed_below}
use Rattle.topology.proofs.Theory.{ends_placed}
use Rattle.stories.specs.Laws.{leaving}
use Rattle.stories.proofs.Terms.{weight, sign, weight_in, weight_out, sign_plus, sign-none, additive, over-sum, signed-sum}

-- the cut row of t at k, as a number
abbrev pub row_of : {M : Type 0} → Ops M → Plan → Set → ℕ → ℕ → M
row_of o p T t k = sign o (cut_row (graph_of p) T 32 t k)

module _ {M : Type 0} {o : Ops M} (laws : Exact o) (p : Plan) (T : Set) (tree : Tree (graph_of p) (placed p) T) where
  tree_below : Below 32 T
  tree_below k m = placed_below p k (tree.placed k m)

  balances : Balances (additive laws) (graph_of p) (placed p) T 32 16
  balances = (theory M).balances (additive laws) (graph_of p) (placed p) T 32 16 (placed_below p) (ends_placed p) tree

  pub rows : Rows (graph_of p) T 32
  rows = (theory M).rows (graph_of p) T 32 tree_below tree.free

  pub nodes_cuts : (i : ℕ → M) → ((x : ℕ) → x < 16 → leaving o p i x ≡ o.nought) ↔ ((t : ℕ) → t ∈ T → sum o 32 (λ k. o.mul (weight o (placed p k)) (o.mul (row_of o p T t k) (i k))) ≡ o.nought)
  unfolding additive
  nodes_cuts i = (
    λ n t m. sym (over-sum laws (placed p) (λ k. cut_row (graph_of p) T 32 t k) i 32) ∙ (balances.nodes_cuts i).0 (λ x l. over-sum laws (placed p) (λ k. incidence (graph_of p) x k) i 32 ∙ sym (signed-sum laws (placed p) (λ k. incidence (graph_of p) x k) i 32) ∙ n x l) t m,
    λ n x l. signed-sum laws (placed p) (λ k. incidence (graph_of p) x k) i 32 ∙ sym (over-sum laws (placed p) (λ k. incidence (graph_of p) x k) i 32) ∙ (balances.nodes_cuts i).1 (λ t m. over-sum laws (placed p) (λ k. cut_row (graph_of p) T 32 t k) i 32 ∙ n t m) x l,
  )

  pub figures_links : (u : ℕ → M) → ((f : ℕ → M) × ((k : ℕ) → k ∈ placed p → u k ≡ o.sub (f ((graph_of p).tail k)) (f ((graph_of p).head k)))) ↔ ((k : ℕ) → k ∈ placed p → T k ≡ false → u k ≡ sum o 32 (λ r. o.mul (weight o (T r)) (o.mul (row_of o p T r k) (u r))))
  unfolding additive
  figures_links u = (
    λ f k m l. (balances.falls_links u).0 (f.0, λ k m. f.1 k m ∙ laws.sub_is _ _) k m l ∙ over-sum laws T (λ r. cut_row (graph_of p) T 32 r k) u 32,
    λ f. let e = (balances.falls_links u).1 (λ k m l. f k m l ∙ sym (over-sum laws T (λ r. cut_row (graph_of p) T 32 r k) u 32)) in (e.0, λ k m. e.1 k m ∙ sym (laws.sub_is _ _)),
  )

  gone : (w x q : M) → q ≡ o.nought → o.mul w (o.mul q x) ≡ o.nought
  gone w x q e = ap (λ q. o.mul w (o.mul q x)) e ∙ zeros w x
    where
      zeros : (w x : M) → o.mul w (o.mul o.nought x) ≡ o.nought
      zeros w x = simp (ring, laws)

  all : (w x q : M) → w ≡ o.one → q ≡ o.one → o.mul w (o.mul q x) ≡ x
  all w x q e f = ap₂ (λ w q. o.mul w (o.mul q x)) e f ∙ ones x
    where
      ones : (x : M) → o.mul o.one (o.mul o.one x) ≡ x
      ones x = simp (ring, laws)

  -- a tree branch alone
  own-sum : (u : ℕ → M) (k : ℕ) → k ∈ T → sum o 32 (λ r. o.mul (weight o (T r)) (o.mul (row_of o p T r k) (u r))) ≡ u k
  own-sum u k m =
      sum_only laws 32 k _ (tree_below k m) (λ r h d. gone _ _ _ (sign-none o _ (rows.others r k m (λ e. d (sym e)))))
      ∙ all _ _ _ (weight_in o (T k) m) (sign_plus o _ (rows.own k m))

  -- every placed branch's voltage from the tree's
  pub tree_sum : (u : ℕ → M) → ((k : ℕ) → k ∈ placed p → T k ≡ false → u k ≡ sum o 32 (λ r. o.mul (weight o (T r)) (o.mul (row_of o p T r k) (u r)))) → (k : ℕ) → k ∈ placed p → u k ≡ sum o 32 (λ r. o.mul (weight o (T r)) (o.mul (row_of o p T r k) (u r)))
  tree_sum u links k m = go (T k) refl
    where
      go : (b : Bool) → T k ≡ b → u k ≡ sum o 32 (λ r. o.mul (weight o (T r)) (o.mul (row_of o p T r k) (u r)))
      go true e = sym (own-sum u k e)
      go false e = links k m e

  -- the tree's part of a cut is its own branch
  pub cut-own : (i : ℕ → M) (t : ℕ) → t ∈ T → sum o 32 (λ k. o.mul (weight o (T k)) (o.mul (row_of o p T t k) (i k))) ≡ i t
  cut-own i t m =
      sum_only laws 32 t _ (tree_below t m) (λ k h d. off k d (T k) refl)
      ∙ all _ _ _ (weight_in o (T t) m) (sign_plus o _ (rows.own t m))
    where
      outside : (x : M) → o.mul o.nought x ≡ o.nought
      outside x = simp (ring, laws)

      off : (k : ℕ) → (k ≡ t → ⊥) → (b : Bool) → T k ≡ b → o.mul (weight o (T k)) (o.mul (row_of o p T t k) (i k)) ≡ o.nought
      off k d true e = gone _ _ _ (sign-none o _ (rows.others t k e d))
      off k d false e = ap (λ w. o.mul w (o.mul (row_of o p T t k) (i k))) (weight_out o (T k) e) ∙ outside _
