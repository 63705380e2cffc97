-- What the answers of the calls mean.
use Rattle.std.proofs.Common.{◌≡◌, ℕ, ◌≤◌, Bool, true, false, cond, not, ◌&&◌, eqb, ◌⊎◌, ◌↔◌, pos, Some, None, Option, sym, refl, ap, ◌∙◌, subst, inl, inr, arith}
use Rattle.std.proofs.lemmas.Bool.{and_parts, and_from, eq-eqb, ne_eqb, not-true, not_from_false}
use Rattle.sheet.specs.declared.plan.Plan.{Plan}
use Rattle.sheet.specs.declared.refusal.Shown.{Shown}
use Rattle.sheet.specs.Refusals.{Answer, granted, refused, after, Told, shown_of}
use Rattle.graphs.specs.Graph.{Set, ◌∈◌, both, count, Tree, Spans, none}
use Rattle.graphs.specs.Cuts.{diff, side, cut_row, loop_row, incidence}
use Rattle.graphs.specs.Greedy.{of_class}
use Rattle.graphs.specs.Groups.{Group, sum, sum_over, times}
use Rattle.topology.specs.Matrices.{entry, Matrices, integers}
use Rattle.topology.specs.Meanings.{ProperTree, Shows, earlier, TreeAnswer, LoopRow, LoopAnswer, CutRow, CutAnswer, IncidenceAnswer}
use Rattle.networks.specs.Networks.{tail_of, head_of, graph_of, placed, class_at}
use Rattle.topology.specs.Rows.{shown}
use Rattle.topology.specs.Trees.{tree_set, loose, late, voltage_loop, current_cut, tree_of, loop_of, cut_of, loop_row_of, cut_row_of}
use Rattle.networks.specs.Words.{bits, word, first}
use Rattle.topology.proofs.Earlier.{kept_in_turn}
use Rattle.topology.proofs.Answering.{meets_loop, meets_cut, meets_none}
use Rattle.networks.proofs.Bits.{bits-word}
use Rattle.topology.proofs.Showing.{voltage_loop_lem, current_cut_lem, loop_row_is, cut_row_is}
use Rattle.topology.proofs.Summing.{loop_balances, cut_sides, tree_columns, loop_cut_zero}
use Rattle.topology.proofs.Theory.{best_proper, is_tree, tree_below, none_proper, proper_none}

-- a granted answer is not refused, and grants one thing
apart : {X : Type 0} {x : X} {t : Told} → granted x ≡ refused t → ⊥
apart e = let z : ◌≡◌ {A = ℕ} 0 1 = cc in omega arith

-- the three ways that the tree's call goes
abbrev pub Ways : Plan → Answer ℕ → Type 0
Ways p a =
    ((k : ℕ) × (first (loose p) ≡ Some k) × (a ≡ refused (record { number = 12; words = shown_of (Some (voltage_loop p k)) })))
    ⊎ (((k : ℕ) × (first (late p) ≡ Some k) × (a ≡ refused (record { number = 13; words = shown_of (Some (current_cut p k)) })))
    ⊎ (ProperTree p (tree_set p) × (a ≡ granted (word (tree_set p)))))

pub ways : (p : Plan) → Ways p (tree_of p)
ways p = go (first (loose p)) (first (late p)) refl refl
  where
    go : (l t : Option ℕ) → first (loose p) ≡ l → first (late p) ≡ t → Ways p (tree_of p)
    go (Some k) t e f = inl (k, e, sym (meets_loop p k (voltage_loop p k) (sym e) refl))
    go None (Some k) e f = inr (inl (k, f, sym (meets_cut p k (current_cut p k) (sym e) (sym f) refl)))
    go None None e f = inr (inr (none_proper p e f, sym (meets_none p (word (tree_set p)) (sym e) (sym f) refl)))

-- a granted word stands for the tree that was kept, which is then proper
pub granted_tree : (p : Plan) (w : ℕ) → tree_of p ≡ granted w → (bits w ≡ tree_set p) × ProperTree p (tree_set p)
granted_tree p w e = go (ways p)
  where
    go : Ways p (tree_of p) → (bits w ≡ tree_set p) × ProperTree p (tree_set p)
    go (inl (k, m, f)) = absurd (apart (sym e ∙ f))
    go (inr (inl (k, m, f))) = absurd (apart (sym e ∙ f))
    go (inr (inr (proper, f))) = let same : word (tree_set p) ≡ w = cc in (sym (ap bits same) ∙ bits-word (tree_set p) (tree_below p), proper)

pub proper_granted : (p : Plan) → ProperTree p (tree_set p) → tree_of p ≡ granted (word (tree_set p))
proper_granted p proper = let none = proper_none p proper in sym (meets_none p (word (tree_set p)) (sym none.0) (sym none.1) refl)

pub tree_answer : (p : Plan) → TreeAnswer p (tree_of p)
unfolding tree_set
tree_answer p = record {
  exactly = (λ g. (tree_set p, (granted_tree p g.0 g.1).1), λ t. (word (tree_set p), proper_granted p ((best_proper p).exactly.0 t)));
  tree = λ w e. subst (Tree (graph_of p) (placed p)) (sym (granted_tree p w e).0) (is_tree p);
  proper = λ w e. subst (ProperTree p) (sym (granted_tree p w e).0) (granted_tree p w e).1;
  most = λ w e T t. subst (λ S. count (of_class (class_at p) 1 T) 32 ≤ count (of_class (class_at p) 1 S) 32) (sym (granted_tree p w e).0) ((best_proper p).most T t);
  fewest = λ w e T t. subst (λ S. count (of_class (class_at p) 3 S) 32 ≤ count (of_class (class_at p) 3 T) 32) (sym (granted_tree p w e).0) ((best_proper p).fewest T t);
  turn = λ w e k i. subst (λ (S : Set). k ∈ S ↔ (Spans (graph_of p) (both S (earlier p k)) k → ⊥)) (sym (granted_tree p w e).0) (kept_in_turn p k i);
  columns = λ w e x k i. subst (λ S. times integers (incidence (graph_of p) x k) (pos 1) ≡ sum_over integers S (λ t. times integers (entry (shown (cut_row (graph_of p) S 32 t)) k) (times integers (incidence (graph_of p) x t) (pos 1))) 32) (sym (granted_tree p w e).0) (tree_columns integers p (pos 1) x k i);
  shows = λ t e. go t e (ways p);
}
  where
    go : (t : Told) → tree_of p ≡ refused t → Ways p (tree_of p) → Shows p t
    go t e (inl (k, m, f)) = let same : t ≡ record { number = 12; words = shown_of (Some (voltage_loop p k)) } = cc in inl (voltage_loop p k, same, voltage_loop_lem p k m)
    go t e (inr (inl (k, m, f))) = let same : t ≡ record { number = 13; words = shown_of (Some (current_cut p k)) } = cc in inr (current_cut p k, same, current_cut_lem p k m)
    go t e (inr (inr (proper, f))) = absurd (apart (sym f ∙ e))

-- what follows a granted answer refuses nothing
after_refused : {X Y : Type 0} (a : Answer X) (f : X → Y) (t : Told) → after a (λ x. granted (f x)) ≡ refused t ↔ a ≡ refused t
after_refused (granted x) f t = (λ e. absurd (apart e), λ e. absurd (apart e))
after_refused (refused r) f t = (λ e. let same : r ≡ t = cc in ap refused same, λ e. let same : r ≡ t = cc in ap refused same)

after_granted : {X Y : Type 0} (a : Answer X) (f : X → Y) (y : Y) → after a (λ x. granted (f x)) ≡ granted y → (x : X) × (a ≡ granted x) × (f x ≡ y)
after_granted (granted x) f y e = let same : f x ≡ y = cc in (x, refl, same)
after_granted (refused r) f y e = absurd (apart (sym e))

-- which numbers have a loop row and a cut row, and which row
loop_some : (p : Plan) (w k : ℕ) (s : Shown) → bits w ≡ tree_set p → loop_of p w k ≡ Some s → (k ∈ placed p) × (tree_set p k ≡ false) × (s ≡ shown (loop_row (graph_of p) (tree_set p) 32 k))
loop_some p w k s same e = go (placed p k && not (bits w k)) refl e
  where
    go : (b : Bool) → (placed p k && not (bits w k)) ≡ b → cond b (Some (shown (loop_row (graph_of p) (bits w) 32 k))) None ≡ Some s
        → (k ∈ placed p) × (tree_set p k ≡ false) × (s ≡ shown (loop_row (graph_of p) (tree_set p) 32 k))
    go true m e =
        let parts = and_parts (placed p k) (not (bits w k)) m in
        let is : s ≡ shown (loop_row (graph_of p) (bits w) 32 k) = cc in
        (parts.0, sym (ap (λ S. S k) same) ∙ not-true (bits w k) parts.1, is ∙ ap (λ S. shown (loop_row (graph_of p) S 32 k)) same)
    go false m e = absurd (let z : ◌≡◌ {A = ℕ} 0 1 = cc in omega arith)

loop_none : (p : Plan) (w k : ℕ) → bits w ≡ tree_set p → loop_of p w k ≡ None → k ∈ placed p → k ∈ tree_set p
loop_none p w k same e i = sym (ap (λ S. S k) same) ∙ go (bits w k) refl
  where
    go : (b : Bool) → bits w k ≡ b → bits w k ≡ true
    go true m = m
    go false m =
        let test = and_from (placed p k) (not (bits w k)) i (not_from_false (bits w k) m) in
        let found : Some (shown (loop_row (graph_of p) (bits w) 32 k)) ≡ None = sym (ap (λ b. cond b (Some (shown (loop_row (graph_of p) (bits w) 32 k))) None) test) ∙ e in
        absurd (let z : ◌≡◌ {A = ℕ} 0 1 = cc in omega arith)

cut_some : (p : Plan) (w t : ℕ) (s : Shown) → bits w ≡ tree_set p → cut_of p w t ≡ Some s → (t ∈ tree_set p) × (s ≡ shown (cut_row (graph_of p) (tree_set p) 32 t))
cut_some p w t s same e = go (bits w t) refl e
  where
    go : (b : Bool) → bits w t ≡ b → cond b (Some (shown (cut_row (graph_of p) (bits w) 32 t))) None ≡ Some s → (t ∈ tree_set p) × (s ≡ shown (cut_row (graph_of p) (tree_set p) 32 t))
    go true m e =
        let is : s ≡ shown (cut_row (graph_of p) (bits w) 32 t) = cc in
        (sym (ap (λ S. S t) same) ∙ m, is ∙ ap (λ S. shown (cut_row (graph_of p) S 32 t)) same)
    go false m e = absurd (let z : ◌≡◌ {A = ℕ} 0 1 = cc in omega arith)

cut-none : (p : Plan) (w t : ℕ) → bits w ≡ tree_set p → cut_of p w t ≡ None → tree_set p t ≡ false
cut-none p w t same e = sym (ap (λ S. S t) same) ∙ go (bits w t) refl e
  where
    go : (b : Bool) → bits w t ≡ b → cond b (Some (shown (cut_row (graph_of p) (bits w) 32 t))) None ≡ None → bits w t ≡ false
    go true m e = absurd (let z : ◌≡◌ {A = ℕ} 0 1 = cc in omega arith)
    go false m e = m

-- the rows of a granted tree, in any group
pub matrices : {M : Type 0} (G : Group M) (p : Plan) (w : ℕ) → tree_of p ≡ granted w → Matrices G p w
matrices G p w e =
    let same = (granted_tree p w e).0 in
    let g = graph_of p in
    record {
      loops = λ u x k s f.
          let l = loop_some p w k s same f in
          subst (λ r. sum G (λ j. times G (entry r j) (times G (incidence g x j) u)) 32 ≡ G.zero) (sym l.2) (loop_balances G p u x k l.0 l.1);
      sides = λ u t c f k lt.
          let i = cut_some p w t c same f in
          subst (λ S. sum_over G (side g S 32 t) (λ x. times G (incidence g x k) u) 16 ≡ times G (entry c k) u) (sym same)
          (subst (λ r. sum_over G (side g (tree_set p) 32 t) (λ x. times G (incidence g x k) u) 16 ≡ times G (entry r k) u) (sym i.1) (cut_sides G p u t k lt));
      columns = λ u x k i. subst (λ S. times G (incidence g x k) u ≡ sum_over G S (λ t. times G (entry (shown (cut_row g S 32 t)) k) (times G (incidence g x t) u)) 32) (sym same) (tree_columns G p u x k i);
      orthogonal = λ u t k c s f h.
          let i = cut_some p w t c same f in
          let l = loop_some p w k s same h in
          subst (λ r. sum G (λ j. times G (entry r j) (times G (entry c j) u)) 32 ≡ G.zero) (sym l.2)
          (subst (λ r. sum G (λ j. times G (entry (shown (loop_row g (tree_set p) 32 k)) j) (times G (entry r j) u)) 32 ≡ G.zero) (sym i.1) (loop_cut_zero G p u t k l.0 l.1));
    }

pub loop_answer : (p : Plan) (k : ℕ) → LoopAnswer p k (loop_row_of p k)
unfolding loop_row_of cut_row_of
loop_answer p k = record {
  refusals = after_refused (tree_of p) (λ w. loop_of p w k);
  link = λ s e.
      let f = after_granted (tree_of p) (λ w. loop_of p w k) (Some s) e in
      let l = loop_some p f.0 k s (granted_tree p f.0 f.1).0 f.2 in
      subst (LoopRow p k) (sym l.2) (loop_row_is p k l.0 l.1);
  orthogonal = λ s e t c h.
      let f = after_granted (tree_of p) (λ w. loop_of p w k) (Some s) e in
      let i = after_granted (tree_of p) (λ w. cut_of p w t) (Some c) h in
      let one : i.0 ≡ f.0 = one_grant i.1 f.1 in
      (matrices integers p f.0 f.1).orthogonal (pos 1) t k c s (subst (λ w. cut_of p w t ≡ Some c) one i.2) f.2;
  no_link = λ e i.
      let f = after_granted (tree_of p) (λ w. loop_of p w k) None e in
      loop_none p f.0 k (granted_tree p f.0 f.1).0 f.2 i;
}
  where
    one_grant : {v w : ℕ} → tree_of p ≡ granted v → tree_of p ≡ granted w → v ≡ w
    one_grant e f = cc

pub cut-answer : (p : Plan) (t : ℕ) → CutAnswer p t (cut_row_of p t)
unfolding cut_row_of
cut-answer p t = record {
  refusals = after_refused (tree_of p) (λ w. cut_of p w t);
  of_tree = λ s e.
      let f = after_granted (tree_of p) (λ w. cut_of p w t) (Some s) e in
      let i = cut_some p f.0 t s (granted_tree p f.0 f.1).0 f.2 in
      subst (CutRow p t) (sym i.1) (cut_row_is p t i.0);
  no_tree = λ e.
      let f = after_granted (tree_of p) (λ w. cut_of p w t) None e in
      cut-none p f.0 t (granted_tree p f.0 f.1).0 f.2;
}

-- the rows of a tree that is at hand mean the same
pub loop_at_hand : (p : Plan) (w k : ℕ) (r : Option Shown) → r ≡ loop_of p w k → tree_of p ≡ granted w → LoopAnswer p k (granted r)
unfolding loop_row_of
loop_at_hand p w k r e g = subst (LoopAnswer p k) (ap (λ a. after a (λ tree. granted (loop_of p tree k))) g ∙ sym (ap granted e)) (loop_answer p k)

pub cut_at_hand : (p : Plan) (w t : ℕ) (r : Option Shown) → r ≡ cut_of p w t → tree_of p ≡ granted w → CutAnswer p t (granted r)
unfolding cut_row_of
cut_at_hand p w t r e g = subst (CutAnswer p t) (ap (λ a. after a (λ tree. granted (cut_of p tree t))) g ∙ sym (ap granted e)) (cut-answer p t)

pub incidence-answer : (p : Plan) (x k : ℕ) → IncidenceAnswer p x k (incidence (graph_of p) x k)
unfolding graph_of
incidence-answer p x k = record {
  at_tail = λ b e at. ap (λ o. diff (eqb x (tail_of o)) (eqb x (head_of o))) e ∙ (λ i. diff (eq-eqb x b.ends.tail at i) (ne_eqb x b.ends.head (λ h. b.ends.apart (sym at ∙ h)) i));
  at_head = λ b e at. ap (λ o. diff (eqb x (tail_of o)) (eqb x (head_of o))) e ∙ (λ i. diff (ne_eqb x b.ends.tail (λ t. b.ends.apart (sym t ∙ at)) i) (eq-eqb x b.ends.head at i));
  elsewhere = λ b e t h. ap (λ o. diff (eqb x (tail_of o)) (eqb x (head_of o))) e ∙ (λ i. diff (ne_eqb x b.ends.tail t i) (ne_eqb x b.ends.head h i));
  absent = λ e. ap (λ o. diff (eqb x (tail_of o)) (eqb x (head_of o))) e ∙ both-none (eqb x 0);
}
  where
    both-none : (b : Bool) → diff b b ≡ none
    both-none true = refl
    both-none false = refl
