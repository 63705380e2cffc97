-- Cut rows by place, and the loop rows that are read off them.
use Rattle.std.proofs.Common.{◌≡◌, ℕ, ◌^◌, ◌<◌, cond, eqb, List, Some, None, sym, ap, ◌∙◌, slice_index_or}
use Rattle.std.proofs.lemmas.Bool.{ne_eqb, cond-true, cond-false}
use Rattle.sheet.specs.declared.plan.Plan.{Plan}
use Rattle.sheet.specs.declared.refusal.Shown.{Shown}
use Rattle.graphs.specs.Cuts.{turned, cut_row, loop_row}
use Rattle.graphs.specs.Graph.{◌∈◌, plus, none}
use Rattle.topology.specs.Matrices.{entry}
use Rattle.networks.specs.Networks.{graph_of}
use Rattle.topology.specs.Rows.{nothing, shown}
use Rattle.topology.specs.Trees.{cut_of, CutsOf}
use Rattle.networks.specs.Words.{bits}
use Rattle.networks.proofs.Bits.{bits_below}
use Rattle.topology.proofs.Summing.{entry-shown}

-- what stands at the place of a member is its cut row
pub member_cut : (p : Plan) (w : ℕ) (cuts : List Shown) → CutsOf p w cuts → (t : ℕ) → t < 32 → t ∈ bits w → slice_index_or cuts t nothing ≡ shown (cut_row (graph_of p) (bits w) 32 t)
member_cut p w cuts of t l m = of t l ∙ cond-true (bits w t) (shown (cut_row (graph_of p) (bits w) 32 t)) nothing m

pub cut_by_place : (p : Plan) (w : ℕ) (cuts : List Shown) → CutsOf p w cuts → w < 2 ^ 32 → (t : ℕ) (s : Shown) → t ∈ bits w → s ≡ slice_index_or cuts t nothing → Some s ≡ cut_of p w t
cut_by_place p w cuts of fits t s m h =
    let row = shown (cut_row (graph_of p) (bits w) 32 t) in
    ap Some (h ∙ member_cut p w cuts of t (bits_below w fits t m) m) ∙ sym (cond-true (bits w t) (Some row) None m)

module _ (p : Plan) (w : ℕ) (cuts : List Shown) (of : CutsOf p w cuts) (fits : w < 2 ^ 32) (k j : ℕ) (within : k < 32) (ne : j ≡ k → ⊥) (m : j ∈ bits w) where
  sign_in_cut : entry (slice_index_or cuts j nothing) k ≡ cut_row (graph_of p) (bits w) 32 j k
  sign_in_cut = ap (λ (s : Shown). entry s k) (member_cut p w cuts of j (bits_below w fits j m) m) ∙ entry-shown (cut_row (graph_of p) (bits w) 32 j) k within

  -- a loop passes a member against the way that the member's cut has its branch
  pub loop_by_cut : turned (entry (slice_index_or cuts j nothing) k) ≡ loop_row (graph_of p) (bits w) 32 k j
  unfolding loop_row
  loop_by_cut =
      let S = bits w in
      let past = cond (S j) (turned (cut_row (graph_of p) S 32 j k)) none in
      ap turned sign_in_cut ∙ sym (cond-false (eqb j k) plus past (ne_eqb j k ne) ∙ cond-true (S j) (turned (cut_row (graph_of p) S 32 j k)) none m)
