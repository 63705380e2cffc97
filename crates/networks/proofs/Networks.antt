-- The graph of a plan: what a place says of it, and the labels of its nodes.
use Rattle.std.proofs.Common.{◌≡◌, ℕ, zero, suc, ◌+◌, ◌<◌, Bool, true, false, cond, ◌&&◌, eqb, ltb, List, [], ◌∷◌, map, get_or, take, is_some, Some, None, Option, MatchOption, ◌↔◌, ◌≤◌, leb, sym, refl, ap, ◌∙◌, subst, zero-add, add-one, arith}
use Rattle.std.proofs.lemmas.List.{length-map, get_or-map}
use Rattle.std.proofs.lemmas.List.FromFn.{get_or-range_with_len}
use Rattle.std.proofs.lemmas.Bool.{lt-ltb, le-ltb, ltb-true, and_parts, eq-eqb, ne_eqb, cond-true, cond-false, both_ways}
use Rattle.std.specs.List.{list_any, range_with_len}
use mathlib.Core.Path.{fun_ext}
use denote.Enum.Bare.{sameb, same_true, true_same}
use Rattle.sheet.specs.contracts.kind.Kind.{the_type}
use Rattle.sheet.specs.declared.branch.Branch.{Branch}
use Rattle.sheet.specs.declared.kind.Kind.{Kind}
use Rattle.sheet.specs.declared.kind.Kind.TheVariants.{Resistor, Inductor, Capacitor, VoltageSource, CurrentSource}
use Rattle.sheet.specs.declared.plan.Plan.{Plan}
use Rattle.sheet.specs.Plans.{branch_at}
use Rattle.graphs.specs.Cuts.{diff, turned, leaves, side, cut_row, loop_row}
use Rattle.graphs.specs.Graph.{Graph, Set, ◌∈◌, without, both, Below, plus, none}
use Rattle.graphs.specs.Labels.{label, merge, joins}
use Rattle.graphs.proofs.Labels.{label_in, label_out}
use Rattle.graphs.specs.Greedy.{up_to, of_class}
use Rattle.networks.specs.Networks.{kind_class, passes, listed, among, class_of, tail_of, head_of, class_found, graph_of, placed, class_at, Labelled, alike}

pub placed_below : (p : Plan) → Below 32 (placed p)
unfolding placed
placed_below p k m = ltb-true k 32 (and_parts (ltb k 32) (is_some (branch_at p k)) m).0

-- a test of the class at a place that holds a branch, and at an empty one
pub class_some : (p : Plan) (k : ℕ) (test : ℕ → Bool) (b : Branch) → k < 32 → Some b ≡ branch_at p k → test (class_of b) ≡ both (placed p) (λ j. test (class_at p j)) k
unfolding placed class_at
class_some p k test b h e =
    ap (λ t. (t && true) && test (class_of b)) (sym (lt-ltb k 32 h))
    ∙ ap (λ o. (ltb k 32 && is_some o) && test (class_found o)) e

pub class_none : (p : Plan) (k : ℕ) (test : ℕ → Bool) → None ≡ branch_at p k → false ≡ both (placed p) (λ j. test (class_at p j)) k
unfolding placed class_at
class_none p k test e = go (ltb k 32) ∙ ap (λ o. (ltb k 32 && is_some o) && test (class_found o)) e
  where
    go : (b : Bool) → false ≡ (b && false) && test 5
    go true = refl
    go false = refl

-- the kinds by class
abbrev pub kinds : List Kind
kinds = VoltageSource ∷ Capacitor ∷ Resistor ∷ Inductor ∷ CurrentSource ∷ []

kind_at : (kind : Kind) → get_or kinds (kind_class kind) VoltageSource ≡ kind
kind_at Resistor = refl
kind_at Inductor = refl
kind_at Capacitor = refl
kind_at VoltageSource = refl
kind_at CurrentSource = refl

pub class_order : (n : ℕ) (d : Kind) → n < 5 → kind_class (get_or kinds n d) ≡ n
class_order zero d h = refl
class_order (suc zero) d h = refl
class_order (suc (suc zero)) d h = refl
class_order (suc (suc (suc zero))) d h = refl
class_order (suc (suc (suc (suc zero)))) d h = refl
class_order (suc (suc (suc (suc (suc n))))) d h = absurd (omega arith)

same_kind : (x y : Kind) → kind_class x ≡ kind_class y → x ≡ y
same_kind x y e = sym (kind_at x) ∙ ap (λ n. get_or kinds n VoltageSource) e ∙ kind_at y

-- a test of a kind for another
pub kind_is : (x y : Kind) (r : Bool) → (r ≡ true ↔ x ≡ y) → r ≡ eqb (kind_class x) (kind_class y)
kind_is x y true h = sym (eq-eqb _ _ (ap kind_class (h.0 refl)))
kind_is x y false h = sym (ne_eqb _ _ (λ same. both_ways false refl (h.1 (same_kind x y same))))

-- the program's test of a list for a kind
pub listed_is : (ks : List Kind) (kind : Kind) → list_any (λ one. sameb the_type one kind) ks ≡ listed ks kind
listed_is ks kind = ap (λ (test : Kind → Bool). list_any test ks) (fun_ext (λ one. kind_is one kind (sameb the_type one kind) (same_true the_type tt one kind, true_same the_type one kind)))

-- no place from 32 on holds a branch of a kind
pub past_places : (p : Plan) (k : ℕ) (kind : Kind) → 32 ≤ k → false ≡ of_class (class_at p) (kind_class kind) (placed p) k
unfolding placed
past_places p k kind far = ap (λ b. (b && is_some (branch_at p k)) && eqb (class_at p k) (kind_class kind)) (sym (le-ltb k 32 far))

-- a test of what stands at a place for one kind
pub kind_found : (p : Plan) (k : ℕ) (kind : Kind) (o : Option Branch) (r : Bool) → k < 32 → o ≡ branch_at p k → MatchOption o (r ≡ false) (λ b. r ≡ true ↔ b.kind ≡ kind) → r ≡ of_class (class_at p) (kind_class kind) (placed p) k
kind_found p k kind None r lt e h = h ∙ class_none p k (λ n. eqb n (kind_class kind)) e
kind_found p k kind (Some b) r lt e h = kind_is b.kind kind r h ∙ class_some p k (λ n. eqb n (kind_class kind)) b lt e

-- a test of the kind at a place
pub kind_passes : (p : Plan) (k : ℕ) (test : Kind → Bool) (r : Bool) → k < 32 → MatchOption (branch_at p k) (r ≡ false) (λ b. r ≡ test b.kind) → r ≡ among test p k
unfolding among
kind_passes p k test r lt h = go (branch_at p k) h ∙ ap (λ t. t && passes test (branch_at p k)) (sym (lt-ltb k 32 lt))
  where
    go : (o : Option Branch) → MatchOption o (r ≡ false) (λ b. r ≡ test b.kind) → r ≡ passes test o
    go None h = h
    go (Some b) h = h

pub among_below : (p : Plan) (test : Kind → Bool) → Below 32 (among test p)
unfolding among
among_below p test k m = ltb-true k 32 (and_parts (ltb k 32) (passes test (branch_at p k)) m).0

-- the classes up to c, by a test of kinds
pub among_up_to : (p : Plan) (test : Kind → Bool) (c : ℕ) → ((kind : Kind) → test kind ≡ leb (kind_class kind) c) → among test p ≡ up_to (class_at p) c (placed p)
unfolding among placed class_at
among_up_to p test c same = fun_ext (λ k. go (ltb k 32) (branch_at p k))
  where
    go : (b : Bool) (o : Option Branch) → (b && passes test o) ≡ ((b && is_some o) && leb (class_found o) c)
    go false o = refl
    go true None = refl
    go true (Some b) = same b.kind

-- the first class alone, and all but the last
pub voltage_low : (kind : Kind) → listed (take 1 kinds) kind ≡ leb (kind_class kind) 0
voltage_low Resistor = refl
voltage_low Inductor = refl
voltage_low Capacitor = refl
voltage_low VoltageSource = refl
voltage_low CurrentSource = refl

pub no_current_low : (kind : Kind) → listed (take 4 kinds) kind ≡ leb (kind_class kind) 3
no_current_low Resistor = refl
no_current_low Inductor = refl
no_current_low Capacitor = refl
no_current_low VoltageSource = refl
no_current_low CurrentSource = refl

node_tail : (o : Option Branch) → tail_of o < 16
node_tail None = omega arith
node_tail (Some b) = b.ends.tail_within

node_head : (o : Option Branch) → head_of o < 16
node_head None = omega arith
node_head (Some b) = b.ends.head_within

pub tail_node : (p : Plan) (k : ℕ) → (graph_of p).tail k < 16
unfolding graph_of
tail_node p k = node_tail (branch_at p k)

pub head_node : (p : Plan) (k : ℕ) → (graph_of p).head k < 16
unfolding graph_of
head_node p k = node_head (branch_at p k)

-- with no branch merged each node is its own label
pub labelled_none : (g : Graph) (S : Set) → Labelled g S 0 (range_with_len 0 16)
unfolding label
labelled_none g S = record {
  all = refl;
  each = λ x h. get_or-range_with_len 0 16 x 0 h ∙ zero-add x;
}

module _ (g : Graph) (S : Set) (k : ℕ) (ls : List ℕ) (before : Labelled g S k ls) where
  pub labelled_in : k ∈ S → g.tail k < 16 → g.head k < 16 → Labelled g S (k + 1) (map (merge (get_or ls (g.tail k) 0) (get_or ls (g.head k) 0)) ls)
  labelled_in m t h = subst (λ n. Labelled g S n (map (merge (get_or ls (g.tail k) 0) (get_or ls (g.head k) 0)) ls)) (sym (add-one k)) (record {
    all = length-map ls (merge (get_or ls (g.tail k) 0) (get_or ls (g.head k) 0)) ∙ before.all;
    each = λ x lt.
        get_or-map (merge (get_or ls (g.tail k) 0) (get_or ls (g.head k) 0)) ls x 0 0 (subst (λ n. x < n) (sym before.all) lt)
        ∙ (λ i. merge (before.each (g.tail k) t i) (before.each (g.head k) h i) (before.each x lt i))
        ∙ sym (label_in g S k x m);
  })

  pub labelled_out : S k ≡ false → Labelled g S (k + 1) ls
  labelled_out m = subst (λ n. Labelled g S n ls) (sym (add-one k)) (record {
    all = before.all;
    each = λ x lt. before.each x lt ∙ sym (label_out g S k x m);
  })

  -- labels in a list tell what is joined
  pub labelled_alike : (a b : ℕ) → a < 16 → b < 16 → alike ls a b ≡ joins g S k a b
  labelled_alike a b p q = λ i. eqb (before.each a p i) (before.each b q i)

-- how a branch stands to the nodes with one label, and to those that are joined
pub leaves_labelled : (p : Plan) (S : Set) (m : ℕ) (ls : List ℕ) → Labelled (graph_of p) S m ls → (node : ℕ) → node < 16 → (k : ℕ) → leaves (graph_of p) (alike ls node) k ≡ leaves (graph_of p) (joins (graph_of p) S m node) k
leaves_labelled p S m ls all node h k =
    let g = graph_of p in
    λ i. diff (labelled_alike g S m ls all node (g.tail k) h (tail_node p k) i) (labelled_alike g S m ls all node (g.head k) h (head_node p k) i)

-- the same by the sets and nodes that they stand for
pub leaves-side : (p : Plan) (S R : Set) (ls : List ℕ) (j k x : ℕ) → R ≡ without S j → Labelled (graph_of p) R 32 ls → x ≡ (graph_of p).tail j → x < 16 → leaves (graph_of p) (alike ls x) k ≡ leaves (graph_of p) (side (graph_of p) S 32 j) k
leaves-side p S R ls j k x is all at h = leaves_labelled p R 32 ls all x h k ∙ (λ i. leaves (graph_of p) (joins (graph_of p) (is i) 32 (at i)) k)

-- a loop row at its own branch, at another outside the set, and at one of the set
module _ (g : Graph) (S : Set) (m k j : ℕ) where
  pub loop_own : j ≡ k → loop_row g S m k j ≡ plus
  unfolding loop_row
  loop_own e = cond-true (eqb j k) plus (cond (S j) (turned (cut_row g S m j k)) none) (eq-eqb j k e)

  pub loop_outside : (j ≡ k → ⊥) → S j ≡ false → loop_row g S m k j ≡ none
  unfolding loop_row
  loop_outside ne o = cond-false (eqb j k) plus (cond (S j) (turned (cut_row g S m j k)) none) (ne_eqb j k ne) ∙ cond-false (S j) (turned (cut_row g S m j k)) none o

  pub loop_at : (j ≡ k → ⊥) → j ∈ S → loop_row g S m k j ≡ turned (leaves g (side g S m j) k)
  unfolding loop_row cut_row
  loop_at ne i = cond-false (eqb j k) plus (cond (S j) (turned (cut_row g S m j k)) none) (ne_eqb j k ne) ∙ cond-true (S j) (turned (cut_row g S m j k)) none i
