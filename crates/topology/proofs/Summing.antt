-- Sums over shown rows: the laws of the rows of a plan's tree in any abelian group.
use Rattle.std.proofs.Common.{◌≡◌, ℕ, zero, suc, ◌<◌, false, cond, ◌&&◌, sym, refl, ap, ◌∙◌, ap₂, arith}
use mathlib.Core.Bool.{and-true}
use Rattle.std.proofs.lemmas.Bool.{lt-ltb}
use Rattle.sheet.specs.declared.plan.Plan.{Plan}
use Rattle.graphs.specs.Graph.{Set, ◌∈◌, Sign, plus, none, minus}
use Rattle.graphs.specs.Cuts.{side, cut_row, loop_row, incidence}
use Rattle.graphs.specs.Groups.{Group, sum, sum_over, times}
use Rattle.graphs.specs.Joint.{RowLaws}
use Rattle.graphs.proofs.Classes.{tree_joins}
use Rattle.graphs.proofs.Joint.{theory}
use Rattle.graphs.proofs.Sums.{over_cong}
use Rattle.topology.specs.Matrices.{entry}
use Rattle.networks.specs.Networks.{graph_of, placed}
use Rattle.topology.specs.Rows.{marks, backs, shown}
use Rattle.topology.specs.Trees.{tree_set}
use Rattle.networks.specs.Words.{bits, word}
use Rattle.networks.proofs.Bits.{bits-those}
use Rattle.networks.proofs.Networks.{placed_below, tail_node, head_node}
use Rattle.topology.proofs.Theory.{is_tree, tree_below}

-- the sign of a place in a shown row
pub entry-shown : (f : ℕ → Sign) (k : ℕ) → k < 32 → entry (shown f) k ≡ f k
entry-shown f k lt =
    (λ i. cond (at (λ j. backs (f j)) i) minus (cond (at (λ j. marks (f j)) i) plus none)) ∙ go (f k)
  where
    at : (S : Set) → bits (word S) k ≡ S k
    at S = ap (λ R. R k) (bits-those S 32) ∙ ap (λ t. S k && t) (lt-ltb k 32 lt) ∙ and-true (S k)

    go : (x : Sign) → cond (backs x) minus (cond (marks x) plus none) ≡ x
    go plus = refl
    go none = refl
    go minus = refl

module _ {M : Type 0} (G : Group M) where
  sum_below : (f h : ℕ → M) (n : ℕ) → ((k : ℕ) → k < n → f k ≡ h k) → sum G f n ≡ sum G h n
  unfolding sum
  sum_below f h zero e = refl
  sum_below f h (suc n) e = ap₂ G.add (sum_below f h n (λ k lt. e k (omega arith))) (e n (omega arith))

  -- the laws of the theory for the tree of a plan
  pub row_laws : (p : Plan) → RowLaws G (graph_of p) (tree_set p) 32 16
  row_laws p = (theory M).laws G (graph_of p) (tree_set p) 32 16 (tree_below p) (is_tree p).free

  module _ (p : Plan) (u : M) where
    -- incidence times a loop row
    pub loop_balances : (x k : ℕ) → k ∈ placed p → tree_set p k ≡ false → sum G (λ j. times G (entry (shown (loop_row (graph_of p) (tree_set p) 32 k)) j) (times G (incidence (graph_of p) x j) u)) 32 ≡ G.zero
    loop_balances x k i o =
        sum_below _ _ 32 (λ j lt. ap (λ s. times G s (times G (incidence (graph_of p) x j) u)) (entry-shown (loop_row (graph_of p) (tree_set p) 32 k) j lt))
        ∙ (row_laws p).loop_incidence u x k (placed_below p k i) o (tree_joins (is_tree p) k i)

    -- a cut row as a sum of incidence rows
    pub cut_sides : (t k : ℕ) → k < 32 → sum_over G (side (graph_of p) (tree_set p) 32 t) (λ x. times G (incidence (graph_of p) x k) u) 16 ≡ times G (entry (shown (cut_row (graph_of p) (tree_set p) 32 t)) k) u
    cut_sides t k lt = (row_laws p).side-sum u t k (tail_node p k) (head_node p k) ∙ ap (λ s. times G s u) (sym (entry-shown (cut_row (graph_of p) (tree_set p) 32 t) k lt))

    -- incidence from its tree columns
    pub tree_columns : (x k : ℕ) → k ∈ placed p → times G (incidence (graph_of p) x k) u ≡ sum_over G (tree_set p) (λ t. times G (entry (shown (cut_row (graph_of p) (tree_set p) 32 t)) k) (times G (incidence (graph_of p) x t) u)) 32
    tree_columns x k i =
        (row_laws p).columns u x k (tree_joins (is_tree p) k i)
        ∙ over_cong G (tree_set p) _ _ 32 (λ t m. ap (λ s. times G s (times G (incidence (graph_of p) x t) u)) (sym (entry-shown (cut_row (graph_of p) (tree_set p) 32 t) k (placed_below p k i))))

    -- a loop row times a cut row
    pub loop_cut_zero : (t k : ℕ) → k ∈ placed p → tree_set p k ≡ false → sum G (λ j. times G (entry (shown (loop_row (graph_of p) (tree_set p) 32 k)) j) (times G (entry (shown (cut_row (graph_of p) (tree_set p) 32 t)) j) u)) 32 ≡ G.zero
    loop_cut_zero t k i o =
        sum_below _ _ 32 (λ j lt. ap₂ (λ s r. times G s (times G r u)) (entry-shown (loop_row (graph_of p) (tree_set p) 32 k) j lt) (entry-shown (cut_row (graph_of p) (tree_set p) 32 t) j lt))
        ∙ (row_laws p).orthogonal u t k (placed_below p k i) o (tree_joins (is_tree p) k i)
