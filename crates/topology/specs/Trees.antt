-- What the calls on a plan's tree answer. Assumes nothing.
--
-- order p             the placed branches by class, lower numbers first in a class
-- tree_set p          the branches kept: in that order, each that closes no loop with those kept before it
-- voltages p          the voltage sources (class 0)
-- no_currents p       the branches that are no current source (classes 0 to 3)
-- loose p             the voltage sources that are not kept
-- late p              the current sources that are kept
-- voltage_loop p k    the loop of the voltage source k with kept voltage sources, run along k
-- current_cut p k     the cut of the nodes that branches other than current sources reach from the tail of k
-- showing             refused by that number with what is shown of k, if there is such a k; else what follows
-- tree_of p           12 with the first loose source's loop; 13 with the first late source's cut; else the tree
-- loop_of, cut_of     the loop row of a link, the cut row of a tree branch, none for another number
-- cut_at_place        the cut row of a member of the word w, and no row for another number
-- CutsOf p w cuts     a list that has this at each of the 32 places
-- loop_row_of         12 and 13 as for the tree, then the loop row
-- cut_row_of          12 and 13 as for the tree, then the cut row
use Rattle.std.specs.Prelude.{◌≡◌, ℕ, ◌<◌, cond, not, ◌&&◌, List, Some, None, Option, slice_index_or}
use Rattle.sheet.specs.declared.plan.Plan.{Plan}
use Rattle.sheet.specs.declared.refusal.Shown.{Shown}
use Rattle.sheet.specs.Refusals.{Answer, granted, refused, after, shown_of}
use Rattle.graphs.specs.Graph.{Set, both}
use Rattle.graphs.specs.Cuts.{cut_row, loop_row}
use Rattle.graphs.specs.Greedy.{greedy, up_to, in_order}
use Rattle.networks.specs.Words.{bits, word, except, first}
use Rattle.networks.specs.Networks.{graph_of, placed, class_at}
use Rattle.topology.specs.Rows.{nothing, shown, cut_from}

abbrev pub order : Plan → List ℕ
order p = in_order (class_at p) (placed p) 32 5

unfoldable pub tree_set : Plan → Set
tree_set p = greedy (graph_of p) 32 (order p)

abbrev pub voltages : Plan → Set
voltages p = up_to (class_at p) 0 (placed p)

abbrev pub no_currents : Plan → Set
no_currents p = up_to (class_at p) 3 (placed p)

abbrev pub loose : Plan → Set
loose p = except (voltages p) (tree_set p)

abbrev pub late : Plan → Set
late p = except (tree_set p) (no_currents p)

unfoldable pub voltage_loop : Plan → ℕ → Shown
voltage_loop p k = shown (loop_row (graph_of p) (both (tree_set p) (voltages p)) 32 k)

unfoldable pub current_cut : Plan → ℕ → Shown
current_cut p k = cut_from (graph_of p) (no_currents p) ((graph_of p).tail k)

abbrev pub showing : {X : Type 0} → ℕ → (ℕ → Shown) → Option ℕ → Answer X → Answer X
showing n f None rest = rest
showing n f (Some k) rest = refused (record { number = n; words = shown_of (Some (f k)) })

unfoldable pub tree_of : Plan → Answer ℕ
tree_of p =
    showing 12 (voltage_loop p) (first (loose p))
    (showing 13 (current_cut p) (first (late p))
    (granted (word (tree_set p))))

abbrev pub loop_of : Plan → ℕ → ℕ → Option Shown
loop_of p tree k = cond (placed p k && not (bits tree k)) (Some (shown (loop_row (graph_of p) (bits tree) 32 k))) None

abbrev pub cut_of : Plan → ℕ → ℕ → Option Shown
cut_of p tree t = cond (bits tree t) (Some (shown (cut_row (graph_of p) (bits tree) 32 t))) None

abbrev pub cut_at_place : Plan → ℕ → ℕ → Shown
cut_at_place p w t = cond (bits w t) (shown (cut_row (graph_of p) (bits w) 32 t)) nothing

abbrev pub CutsOf : Plan → ℕ → List Shown → Type 0
CutsOf p w cuts = (t : ℕ) → t < 32 → slice_index_or cuts t nothing ≡ cut_at_place p w t

unfoldable pub loop_row_of : Plan → ℕ → Answer (Option Shown)
loop_row_of p k = after (tree_of p) (λ tree. granted (loop_of p tree k))

unfoldable pub cut_row_of : Plan → ℕ → Answer (Option Shown)
cut_row_of p t = after (tree_of p) (λ tree. granted (cut_of p tree t))
