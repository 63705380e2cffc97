-- What the tree's call answers, from what is found.
use Rattle.std.proofs.Common.{◌≡◌, ℕ, Bool, cond, is_some, Some, None, Option, IfSome, sym, subst, ap, ◌∙◌}
use Rattle.sheet.specs.declared.plan.Plan.{Plan}
use Rattle.sheet.specs.declared.refusal.Shown.{Shown}
use Rattle.sheet.specs.Refusals.{Answer, granted, refused, shown_of}
use Rattle.graphs.specs.Cuts.{loop_row}
use Rattle.graphs.specs.Graph.{both}
use Rattle.networks.specs.Networks.{graph_of}
use Rattle.topology.specs.Rows.{shown, cut_from}
use Rattle.topology.specs.Trees.{tree_set, voltages, no_currents, loose, late, voltage_loop, current_cut, showing, tree_of}
use Rattle.networks.specs.Words.{bits, word, except, first}

abbrev after_loops : Plan → Answer ℕ
after_loops p = showing 13 (current_cut p) (first (late p)) (granted (word (tree_set p)))

pub meets_loop : (p : Plan) (k : ℕ) (s : Shown) → Some k ≡ first (loose p) → s ≡ voltage_loop p k → refused (record { number = 12; words = shown_of (Some s) }) ≡ tree_of p
unfolding tree_of
meets_loop p k s found is =
    ap (λ x. refused (record { number = 12; words = shown_of (Some x) })) is
    ∙ ap (λ o. showing 12 (voltage_loop p) o (after_loops p)) found

pub meets_cut : (p : Plan) (k : ℕ) (s : Shown) → None ≡ first (loose p) → Some k ≡ first (late p) → s ≡ current_cut p k → refused (record { number = 13; words = shown_of (Some s) }) ≡ tree_of p
unfolding tree_of
meets_cut p k s none found is =
    ap (λ x. refused (record { number = 13; words = shown_of (Some x) })) is
    ∙ ap (λ o. showing 13 (current_cut p) o (granted (word (tree_set p)))) found
    ∙ ap (λ o. showing 12 (voltage_loop p) o (after_loops p)) none

pub meets_none : (p : Plan) (w : ℕ) → None ≡ first (loose p) → None ≡ first (late p) → w ≡ word (tree_set p) → granted w ≡ tree_of p
unfolding tree_of
meets_none p w none none' is =
    ap granted is
    ∙ ap (λ o. showing 13 (current_cut p) o (granted (word (tree_set p)))) none'
    ∙ ap (λ o. showing 12 (voltage_loop p) o (after_loops p)) none

-- the same from the words that the program holds: the branches kept, the voltage sources, the others
module _ (p : Plan) (tree : ℕ) (kept : bits tree ≡ tree_set p) where
  pub loose-found : (v l : ℕ) → bits v ≡ voltages p → bits l ≡ except (bits v) (bits tree) → first (bits l) ≡ first (loose p)
  loose-found v l is e = ap first (e ∙ (λ i. except (is i) (kept i)))

  pub late-found : (q l : ℕ) → bits q ≡ no_currents p → bits l ≡ except (bits tree) (bits q) → first (bits l) ≡ first (late p)
  late-found q l is e = ap first (e ∙ (λ i. except (kept i) (is i)))

  pub loop_shown : (v b k : ℕ) (s : Shown) → bits v ≡ voltages p → bits b ≡ both (bits tree) (bits v) → s ≡ shown (loop_row (graph_of p) (bits b) 32 k) → s ≡ voltage_loop p k
  unfolding voltage_loop
  loop_shown v b k s is e f = f ∙ ap (λ S. shown (loop_row (graph_of p) S 32 k)) (e ∙ (λ i. both (kept i) (is i)))

pub cut-shown : (p : Plan) (q k x : ℕ) (s : Shown) → bits q ≡ no_currents p → x ≡ (graph_of p).tail k → s ≡ cut_from (graph_of p) (bits q) x → s ≡ current_cut p k
unfolding current_cut
cut-shown p q k x s is at e = e ∙ (λ i. cut_from (graph_of p) (is i) (at i))

-- a row that is shown where a test holds
pub shown_if : (o : Option Shown) (b : Bool) (s : Shown) → is_some o ≡ b → IfSome o (λ x. x ≡ s) → o ≡ cond b (Some s) None
shown_if None b s is h = ap (λ t. cond t (Some s) None) is
shown_if (Some x) b s is h = ap Some h ∙ ap (λ t. cond t (Some s) None) is

-- an answer with what it means
pub with_meaning : {X : Type 0} (M : X → Type 0) {a b : X} → M b → a ≡ b → record { answer : a ≡ b; meaning : M a }
with_meaning M m e = record { answer = e; meaning = subst M (sym e) m }
