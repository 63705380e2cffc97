-- Shown rows: what their words say, and what the loops, cuts and rows of a plan are.
use Rattle.std.proofs.Common.{◌≡◌, ℕ, ◌<◌, Bool, true, false, not, ◌&&◌, eqb, ltb, pos, is_some, Some, None, Option, sym, refl, ap, ◌∙◌, arith}
use mathlib.Core.Path.{fun_ext}
use mathlib.Core.Bool.{and-true, and-false}
use Rattle.std.proofs.lemmas.Bool.{and_parts, and_from, eq-eqb, eqb-true, not-false, both_ways}
use Rattle.sheet.specs.declared.branch.Branch.{Branch}
use Rattle.sheet.specs.declared.plan.Plan.{Plan}
use Rattle.sheet.specs.Plans.{branch_at}
use Rattle.graphs.specs.Graph.{Set, ◌∈◌, ◌⊆◌, both, plus, none, LoopAlong}
use Rattle.graphs.specs.Cuts.{just_one, diff, cut, leaves, side, cut_row, loop_row}
use Rattle.graphs.specs.Greedy.{up_to, reached}
use Rattle.graphs.proofs.Classes.{up_to_less, up_to_class, up_to_in, tree_joins}
use Rattle.graphs.proofs.Labels.{joins_walk, walk_joins}
use Rattle.graphs.proofs.LoopRows.{loop_row_lem}
use Rattle.graphs.proofs.Sets.{out}
use Rattle.graphs.proofs.Trails.{loop_along, free_independent, free_less, wider}
use Rattle.topology.specs.Matrices.{integers}
use Rattle.topology.specs.Meanings.{currents, VoltageLoop, CurrentCut, LoopRow, CutRow}
use Rattle.networks.specs.Networks.{tail_of, head_of, graph_of, placed, class_at}
use Rattle.topology.specs.Rows.{marks, shown, cut_from}
use Rattle.topology.specs.Trees.{tree_set, voltages, loose, late, voltage_loop, current_cut}
use Rattle.networks.specs.Words.{bits, first}
use Rattle.networks.proofs.Bits.{bits-those}
use Rattle.networks.proofs.Networks.{placed_below}
use Rattle.topology.proofs.Summing.{loop_balances, cut_sides}
use Rattle.networks.proofs.Firsts.{first_member, first_lowest}
use Rattle.topology.proofs.Theory.{class_low, best, is_tree, tree_below, tree_rows, loose_is, late_is, late_in}

-- the members of the row of a set of nodes are its cut
pub cut_members : (p : Plan) (N : Set) → bits (shown (leaves (graph_of p) N)).members ≡ cut (graph_of p) (placed p) N
unfolding graph_of placed
cut_members p N = bits-those (λ k. marks (leaves (graph_of p) N k)) 32 ∙ fun_ext (λ k. go (branch_at p k) (ltb k 32))
  where
    alone : (a : Bool) → marks (diff a a) ≡ false
    alone true = refl
    alone false = refl

    one : (a b : Bool) → marks (diff a b) ≡ just_one a b
    one true true = refl
    one true false = refl
    one false true = refl
    one false false = refl

    go : (o : Option Branch) (t : Bool) → (marks (diff (N (tail_of o)) (N (head_of o))) && t) ≡ ((t && is_some o) && just_one (N (tail_of o)) (N (head_of o)))
    go None true = ap (λ b. b && true) (alone (N 0))
    go None false = and-false (marks (diff (N 0) (N 0)))
    go (Some b) true = and-true (marks (diff (N b.ends.tail) (N b.ends.head))) ∙ one (N b.ends.tail) (N b.ends.head)
    go (Some b) false = and-false (marks (diff (N b.ends.tail) (N b.ends.head)))

-- 12 shows a loop of voltage sources
pub voltage_loop_lem : (p : Plan) (k : ℕ) → first (loose p) ≡ Some k → VoltageLoop p (voltage_loop p k)
unfolding voltage_loop tree_set
voltage_loop_lem p k found =
    let g = graph_of p in
    let S = both (tree_set p) (voltages p) in
    let m = (first_member (loose p) 0 32 k found).0 in
    let is = loose_is p k m in
    let l : LoopAlong g S k = wider (kept_sources is.1) ((best p).refused k is.0 is.2) in
    let free = free_independent g S (free_less g S (tree_set p) (λ j i. (and_parts (tree_set p j) (voltages p j) i).0) (is_tree p).free) in
    record {
      source = k;
      of_source = (and_parts (voltages p k) (not (tree_set p k)) m).0;
      outside = is.2;
      lowest = λ j lt i. not-false (tree_set p j) (within j i (first_lowest (loose p) 0 32 k j found (omega arith) lt));
      around = l;
      row = ap shown (fun_ext (λ j. sym (loop_row_lem g S 32 k free (λ i h. tree_below p i (and_parts (tree_set p i) (voltages p i) h).0) l j)));
    }
  where
    kept_sources : class_at p k ≡ 0 → up_to (class_at p) (class_at p k) (tree_set p) ⊆ both (tree_set p) (voltages p)
    kept_sources z j h =
        let i = up_to_less (class_at p) (class_at p k) (tree_set p) j h in
        let le = up_to_class (class_at p) (class_at p k) (tree_set p) j h in
        and_from (tree_set p j) (voltages p j) i (up_to_in (class_at p) 0 (placed p) j ((is_tree p).placed j i) (omega arith))

    within : (j : ℕ) → j ∈ voltages p → loose p j ≡ false → not (tree_set p j) ≡ false
    within j i e = ap (λ b. b && not (tree_set p j)) (sym i) ∙ e

-- 13 shows a cut of current sources
pub current_cut_lem : (p : Plan) (k : ℕ) → first (late p) ≡ Some k → CurrentCut p (current_cut p k)
unfolding current_cut cut_from tree_set
current_cut_lem p k found =
    let is = late_is p k (first_member (late p) 0 32 k found).0 in
    let above : 3 < class_at p k = omega (arith, is.1) in
    let c = (best p).late 3 k is.0 above in
    record {
      source = k;
      of_source = and_from (placed p k) (eqb (class_at p k) 4) ((is_tree p).placed k is.0) (eq-eqb (class_at p k) 4 is.1);
      in_tree = is.0;
      lowest = λ j lt i. out (tree_set p j) (λ t. both_ways (late p j) (first_lowest (late p) 0 32 k j found (omega arith) lt) (late_in p j t (eqb-true (class_at p j) 4 (and_parts (placed p j) (eqb (class_at p j) 4) i).1)));
      nodes = reached (graph_of p) (class_at p) 3 (placed p) 32 k;
      reached = λ x. (
        λ h. joins_walk (graph_of p) (up_to (class_at p) 3 (placed p)) 32 h,
        λ w. walk_joins 32 (λ j h. placed_below p j (up_to_less (class_at p) 3 (placed p) j h)) w,
      );
      inside = c.inside;
      member = c.member;
      all = λ j h. sources j (and_parts (placed p j) _ h).0 (c.above j h);
      row = refl;
      members = cut_members p (reached (graph_of p) (class_at p) 3 (placed p) 32 k);
    }
  where
    sources : (j : ℕ) → j ∈ placed p → 3 < class_at p j → j ∈ currents p
    sources j i h = and_from (placed p j) (eqb (class_at p j) 4) i (eq-eqb (class_at p j) 4 (omega (arith, class_low p j i)))

-- the loop row of a link
pub loop_row_is : (p : Plan) (k : ℕ) → k ∈ placed p → tree_set p k ≡ false → LoopRow p k (shown (loop_row (graph_of p) (tree_set p) 32 k))
loop_row_is p k i o =
    let g = graph_of p in
    let l : LoopAlong g (tree_set p) k = loop_along k o (tree_joins (is_tree p) k i) in
    record {
      is_placed = i;
      outside = o;
      around = l;
      row = ap shown (fun_ext (λ j. sym (loop_row_lem g (tree_set p) 32 k (free_independent g (tree_set p) (is_tree p).free) (tree_below p) l j)));
      balances = λ x. loop_balances integers p (pos 1) x k i o;
    }

-- the cut row of a tree branch
pub cut_row_is : (p : Plan) (t : ℕ) → t ∈ tree_set p → CutRow p t (shown (cut_row (graph_of p) (tree_set p) 32 t))
unfolding cut_row
cut_row_is p t i =
    let N = side (graph_of p) (tree_set p) 32 t in
    let r = tree_rows p in
    record {
      in_tree = i;
      nodes = N;
      side = r.sides t;
      member = (r.row (placed p) t t).1 ((is_tree p).placed t i, λ e. apart (sym (r.own t i) ∙ e));
      alone = λ k h c. r.alone (placed p) t k h c;
      row = refl;
      members = cut_members p N;
      rows = λ k lt. cut_sides integers p (pos 1) t k lt;
    }
  where
    apart : plus ≡ none → ⊥
    apart e = let z : ◌≡◌ {A = ℕ} 0 1 = cc in omega arith
