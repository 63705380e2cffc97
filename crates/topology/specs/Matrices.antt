-- Incidence, loop rows and cut rows as matrices. Assumes nothing.
--
-- entry s k          the sign of the place k in a shown row
-- Matrices G p w     how the rows of the tree w stand to incidence and to one another, summed in the abelian group G
-- integers           the whole numbers under addition
-- value              a sign as a whole number: 1, 0 or -1
-- dot f h            the product of two rows: the sum over the places of the products of their entries
use Rattle.std.specs.Prelude.{◌≡◌, ℕ, ◌<◌, cond, ℤ, pos, ◌+ℤ◌, neg_ℤ, Some}
use Rattle.std.proofs.Math.IntN.{+ℤ_assoc, +ℤ_comm, +ℤ_idr, +ℤ_invr}
use Rattle.sheet.specs.declared.plan.Plan.{Plan}
use Rattle.sheet.specs.declared.refusal.Shown.{Shown}
use Rattle.graphs.specs.Graph.{◌∈◌, Sign, plus, none, minus}
use Rattle.graphs.specs.Cuts.{side, cut_row, incidence}
use Rattle.graphs.specs.Groups.{Group, sum, sum_over, times}
use Rattle.networks.specs.Networks.{graph_of, placed}
use Rattle.topology.specs.Rows.{shown}
use Rattle.topology.specs.Trees.{loop_of, cut_of}
use Rattle.networks.specs.Words.{bits}

abbrev pub entry : Shown → ℕ → Sign
entry s k = cond (bits s.against k) minus (cond (bits s.members k) plus none)

pub record Matrices {M : Type 0} (G : Group M) (p : Plan) (w : ℕ) : Type 0 where
  -- incidence times a loop row is zero
  pub loops : (u : M) (x k : ℕ) (s : Shown) → loop_of p w k ≡ Some s → sum G (λ j. times G (entry s j) (times G (incidence (graph_of p) x j) u)) 32 ≡ G.zero
  -- a cut row is the sum of the incidence rows of the nodes on the tail's side
  pub sides : (u : M) (t : ℕ) (c : Shown) → cut_of p w t ≡ Some c → (k : ℕ) → k < 32 → sum_over G (side (graph_of p) (bits w) 32 t) (λ x. times G (incidence (graph_of p) x k) u) 16 ≡ times G (entry c k) u
  -- incidence is its tree columns times the cut rows
  pub columns : (u : M) (x k : ℕ) → k ∈ placed p → times G (incidence (graph_of p) x k) u ≡ sum_over G (bits w) (λ t. times G (entry (shown (cut_row (graph_of p) (bits w) 32 t)) k) (times G (incidence (graph_of p) x t) u)) 32
  -- loop rows and cut rows are orthogonal
  pub orthogonal : (u : M) (t k : ℕ) (c s : Shown) → cut_of p w t ≡ Some c → loop_of p w k ≡ Some s → sum G (λ j. times G (entry s j) (times G (entry c j) u)) 32 ≡ G.zero

abbrev pub integers : Group ℤ
integers = record {
  zero = pos 0;
  add = ◌+ℤ◌;
  neg = neg_ℤ;
  assoc = +ℤ_assoc;
  comm = +ℤ_comm;
  unit = +ℤ_idr;
  inverse = +ℤ_invr;
}

abbrev pub value : Sign → ℤ
value s = times integers s (pos 1)

abbrev pub dot : (ℕ → Sign) → (ℕ → Sign) → ℤ
dot f h = sum integers (λ k. times integers (f k) (value (h k))) 32
