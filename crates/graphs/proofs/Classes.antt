-- The greedy tree of a list sorted by classes, compared with every other tree; and what a refused or a late branch shows. Assumes nothing.
use Rattle.std.proofs.Common.{◌≡◌, ℕ, suc, ◌+◌, ◌<◌, ◌≤◌, Bool, true, false, ◌&&◌, ◌||◌, eqb, leb, ◌⊎◌, List, [], ◌∷◌, ◌++◌, sym, refl, ap, ◌∙◌, subst, inl, inr, arith}
use mathlib.Core.Bool.{false≢true}
use Rattle.std.proofs.lemmas.Bool.{eqb-true, eq-eqb, leb-true, le-leb, or_cases, or_left, or_right, both_ways, and_parts, and_from, cases_lt, cases_Bool}
use Rattle.graphs.specs.Graph.{Graph, Set, ◌∈◌, ◌⊆◌, empty, without, count, listed, Below, Ends, Spans, here, LoopFree, LoopAlong, Tree}
use Rattle.graphs.specs.Labels.{label}
use Rattle.graphs.specs.Cuts.{just_one}
use Rattle.graphs.specs.Greedy.{greedy, Sorted, up_to, of_class, reached, LateCut, Proper}
use Rattle.graphs.proofs.Sets.{out, same, in_without, count-le, count-parts}
use Rattle.graphs.proofs.Walks.{one_along, through, into}
use Rattle.graphs.proofs.Labels.{label_ends, walk_joins, not-joins}
use Rattle.graphs.proofs.Trails.{free_independent, free_less, loop_along}
use Rattle.graphs.proofs.Rank.{rank}
use Rattle.graphs.proofs.Greedy.{kept_spans, listed-append, greedy-listed, greedy_front, greedy_tree}

-- members by class
pub up_to_in : (class : ℕ → ℕ) (c : ℕ) (S : Set) (k : ℕ) → k ∈ S → class k ≤ c → k ∈ up_to class c S
up_to_in class c S k h l = and_from (S k) (leb (class k) c) h (le-leb (class k) c l)

pub up_to_less : (class : ℕ → ℕ) (c : ℕ) (S : Set) → up_to class c S ⊆ S
up_to_less class c S k h = (and_parts (S k) (leb (class k) c) h).0

pub up_to_class : (class : ℕ → ℕ) (c : ℕ) (S : Set) (k : ℕ) → k ∈ up_to class c S → class k ≤ c
up_to_class class c S k h = leb-true (class k) c (and_parts (S k) (leb (class k) c) h).1

-- up to one class more
pub count_up_to : (class : ℕ → ℕ) (c : ℕ) (S : Set) (m : ℕ) → count (up_to class (suc c) S) m ≡ count (up_to class c S) m + count (of_class class (suc c) S) m
count_up_to class c S m = count-parts (up_to class (suc c) S) (up_to class c S) (of_class class (suc c) S) m (λ k. spread (S k) (leb (class k) (suc c)) (leb (class k) c) (eqb (class k) (suc c)) (tests (class k))) (λ k i j. omega (arith, up_to_class class c S k i, eqb-true (class k) (suc c) (and_parts (S k) (eqb (class k) (suc c)) j).1))
  where
    spread : (s a b d : Bool) → a ≡ (b || d) → (s && a) ≡ ((s && b) || (s && d))
    spread true a b d e = e
    spread false a b d e = refl

    tests : (x : ℕ) → leb x (suc c) ≡ (leb x c || eqb x (suc c))
    tests x = same _ _ (λ h. go h (cases_lt c x)) (λ h. elim (or_cases (leb x c) (eqb x (suc c)) h) [ inl u ↦ le-leb x (suc c) (omega (arith, leb-true x c u)) | inr u ↦ le-leb x (suc c) (omega (arith, eqb-true x (suc c) u)) ])
      where
        go : leb x (suc c) ≡ true → (c < x) ⊎ (x ≤ c) → (leb x c || eqb x (suc c)) ≡ true
        go h (inl l) = or_right (leb x c) (eqb x (suc c)) (eq-eqb x (suc c) (omega (arith, leb-true x (suc c) h)))
        go h (inr l) = or_left (leb x c) (eqb x (suc c)) (le-leb x c l)

-- two trees have as many branches
pub tree_joins : {g : Graph} {P S : Set} → Tree g P S → (k : ℕ) → k ∈ P → Spans g S k
tree_joins t k h = t.spans _ _ (one_along k h)

trees_le : (g : Graph) (P S R : Set) (m n : ℕ) → Below m P → Ends n g P → Tree g P S → Tree g P R → count S m ≤ count R m
trees_le g P S R m n b ends s r = rank g S R m n s.free r.free (λ k h. b k (r.placed k h)) (λ k h. ends k (s.placed k h)) (λ k h. ends k (r.placed k h)) (λ k h. tree_joins r k (s.placed k h))

pub trees_same : (g : Graph) (P S R : Set) (m n : ℕ) → Below m P → Ends n g P → Tree g P S → Tree g P R → count S m ≡ count R m
trees_same g P S R m n b ends s r = omega (arith, trees_le g P S R m n b ends s r, trees_le g P R S m n b ends r s)

-- a sorted list, cut after the class c
record Parted (class : ℕ → ℕ) (c : ℕ) (ks : List ℕ) : Type 0 where
  low : List ℕ
  high : List ℕ
  whole : ks ≡ low ++ high
  lows : (j : ℕ) → j ∈ listed low → class j ≤ c
  highs : (j : ℕ) → j ∈ listed high → c < class j

parted : (class : ℕ → ℕ) (c : ℕ) (ks : List ℕ) → Sorted class ks → Parted class c ks
unfolding listed Sorted
parted class c [] s = record { low = []; high = []; whole = refl; lows = λ j h. absurd (false≢true h); highs = λ j h. absurd (false≢true h) }
parted class c (k ∷ ks) s = go (cases_lt c (class k)) (parted class c ks s.1)
  where
    at : (P : ℕ → Type 0) (j : ℕ) (is : List ℕ) → P k → (j ∈ listed is → P j) → (eqb j k || listed is j) ≡ true → P j
    at P j is p f h = elim (or_cases (eqb j k) (listed is j) h) [ inl e ↦ subst P (sym (eqb-true j k e)) p | inr i ↦ f i ]

    go : (c < class k) ⊎ (class k ≤ c) → Parted class c ks → Parted class c (k ∷ ks)
    go (inl l) p = record { low = []; high = k ∷ ks; whole = refl; lows = λ j h. absurd (false≢true h); highs = λ j h. at (λ i. c < class i) j ks l (λ i. omega (arith, s.0 j i)) h }
    go (inr l) p = record { low = k ∷ p.low; high = p.high; whole = ap (λ is. k ∷ is) p.whole; lows = λ j h. at (λ i. class i ≤ c) j p.low l (p.lows j) h; highs = p.highs }

module _ (g : Graph) (m : ℕ) (P : Set) (ks : List ℕ) (class : ℕ → ℕ) (below : Below m P) (lists : (k : ℕ) → listed ks k ≡ P k) (sorted : Sorted class ks) where
  -- the kept branches of the first classes join the ends of every branch of those classes
  pub front_spans : (c k : ℕ) → k ∈ P → class k ≤ c → Spans g (up_to class c (greedy g m ks)) k
  front_spans c k h l = go (parted class c ks sorted)
    where
      go : Parted class c ks → Spans g (up_to class c (greedy g m ks)) k
      go p = elim (or_cases (listed p.low k) (listed p.high k) (sym (listed-append p.low p.high k) ∙ ap (λ is. listed is k) (sym p.whole) ∙ lists k ∙ h)) [ inl i ↦ into less (kept_spans g m p.low empty k i) | inr i ↦ absurd (omega (arith, p.highs k i)) ]
        where
          less : greedy g m p.low ⊆ up_to class c (greedy g m ks)
          less j i = up_to_in class c (greedy g m ks) j (subst (λ is. j ∈ greedy g m is) (sym p.whole) (greedy_front g m p.low p.high j i)) (p.lows j (greedy-listed g m p.low j i))

  tree : Tree g P (greedy g m ks)
  tree = greedy_tree g m P ks below lists

  -- no loop-free part of P has more branches of the first classes
  pub most_up_to : (n c : ℕ) (T : Set) → Ends n g P → T ⊆ P → LoopFree g T → count (up_to class c T) m ≤ count (up_to class c (greedy g m ks)) m
  most_up_to n c T ends part free =
      rank g (up_to class c T) (up_to class c G) m n (free_less g (up_to class c T) T (up_to_less class c T) free) (free_less g (up_to class c G) G (up_to_less class c G) tree.free) (λ k h. below k (tree.placed k (up_to_less class c G k h))) (λ k h. ends k (part k (up_to_less class c T k h))) (λ k h. ends k (tree.placed k (up_to_less class c G k h))) (λ k h. front_spans c k (part k (up_to_less class c T k h)) (up_to_class class c T k h))
    where
      G : Set
      G = greedy g m ks

  -- a branch of P that is not kept closes a loop with kept branches of its class and lower ones
  pub refused_loop : (k : ℕ) → k ∈ P → greedy g m ks k ≡ false → LoopAlong g (up_to class (class k) (greedy g m ks)) k
  refused_loop k h e = loop_along k (out (up_to class (class k) (greedy g m ks) k) (λ i. both_ways (greedy g m ks k) e (up_to_less class (class k) (greedy g m ks) k i))) (front_spans (class k) k h (omega arith))

  -- the ends of a kept branch above class c are not joined by the classes up to c
  pub late_apart : (c k : ℕ) → k ∈ greedy g m ks → c < class k → Spans g (up_to class c P) k → ⊥
  late_apart c k h l w = free_independent g G tree.free k h (into less (through (λ j i. front_spans c j (up_to_less class c P j i) (up_to_class class c P j i)) w))
    where
      G : Set
      G = greedy g m ks

      less : up_to class c G ⊆ without G k
      less j i = in_without G k j (up_to_less class c G j i) (λ e. omega (arith, up_to_class class c G j i, ap class e))

  -- so it leaves the nodes reached from its tail over those classes, and their cut has only branches above class c
  pub late-cut : (c k : ℕ) → k ∈ greedy g m ks → c < class k → LateCut g class c P m k
  late-cut c k h l = record {
    inside = walk_joins m low (here refl);
    outside = head_out;
    member = and_from (P k) (just_one (N (g.tail k)) (N (g.head k))) (tree.placed k h) (λ i. just_one (walk_joins {g = g} m low (here {a = g.tail k} refl) i) (head_out i));
    above = λ j i. elim (cases_lt c (class j)) [ inl u ↦ u | inr u ↦ absurd (one_side (N (g.tail j)) (N (g.head j)) (still j (up_to_in class c P j (and_parts (P j) (just_one (N (g.tail j)) (N (g.head j))) i).0 u)) (and_parts (P j) (just_one (N (g.tail j)) (N (g.head j))) i).1) ];
  }
    where
      N : Set
      N = reached g class c P m k

      low : Below m (up_to class c P)
      low j i = below j (up_to_less class c P j i)

      head_out : N (g.head k) ≡ false
      head_out = not-joins g (up_to class c P) m (g.tail k) (g.head k) (late_apart c k h l)

      still : (j : ℕ) → j ∈ up_to class c P → N (g.tail j) ≡ N (g.head j)
      still j i = ap (eqb (label g (up_to class c P) m (g.tail k))) (label_ends g (up_to class c P) m j (low j i) i)

      one_side : (a b : Bool) → a ≡ b → just_one a b ≡ true → ⊥
      one_side true b e h = false≢true (ap (just_one true) e ∙ h)
      one_side false b e h = false≢true (ap (just_one false) e ∙ h)

  -- against trees with all of class 0 and none of class 4
  module _ (classes : (k : ℕ) → k ∈ P → class k ≤ 4) (T : Set) (proper : Proper g class P T) where
    G' : Set
    G' = greedy g m ks

    first : (k : ℕ) → k ∈ P → class k ≡ 0 → k ∈ greedy g m ks
    unfolding G'
    first k h z = elim (cases_Bool (G' k)) [ inl e ↦ e | inr e ↦ absurd (free_independent g T proper.tree.free k (proper.every k h z) (into (less e) (front_spans 0 k h (omega (arith, z))))) ]
      where
        less : G' k ≡ false → up_to class 0 G' ⊆ without T k
        less e j i = in_without T k j (proper.every j (tree.placed j (up_to_less class 0 G' j i)) (omega (arith, up_to_class class 0 G' j i))) (λ d. both_ways (G' k) e (subst (λ u. u ∈ G') d (up_to_less class 0 G' j i)))

    low : (j : ℕ) → j ∈ T → class j ≤ 3
    low j i = omega (arith, classes j (proper.tree.placed j i), proper.never j i)

    last : (k : ℕ) → k ∈ greedy g m ks → class k ≡ 4 → ⊥
    last k h z = late_apart 3 k h (omega (arith, z)) (into (λ j i. up_to_in class 3 P j (proper.tree.placed j i) (low j i)) (tree_joins proper.tree k (tree.placed k h)))

    pub proper_greedy : Proper g class P (greedy g m ks)
    proper_greedy = record { tree = tree; every = first; never = last }

    -- as many of class 1 at least, and of class 3 at most
    pub most_first : (n : ℕ) → Ends n g P → count (of_class class 1 T) m ≤ count (of_class class 1 (greedy g m ks)) m
    most_first n ends = omega (arith, most_up_to n 1 T ends proper.tree.placed proper.tree.free, count_up_to class 0 T m, count_up_to class 0 (greedy g m ks) m, count-le (up_to class 0 (greedy g m ks)) (up_to class 0 T) m given)
      where
        given : (k : ℕ) → k < m → k ∈ up_to class 0 (greedy g m ks) → k ∈ up_to class 0 T
        given k u i =
            let z : class k ≤ 0 = up_to_class class 0 (greedy g m ks) k i in
            up_to_in class 0 T k (proper.every k (tree.placed k (up_to_less class 0 (greedy g m ks) k i)) (omega arith)) z

    pub fewest_last : (n : ℕ) → Ends n g P → count (of_class class 3 (greedy g m ks)) m ≤ count (of_class class 3 T) m
    fewest_last n ends = omega (arith, most_up_to n 2 T ends proper.tree.placed proper.tree.free, count_up_to class 2 T m, count_up_to class 2 (greedy g m ks) m, trees_same g P T (greedy g m ks) m n below ends proper.tree tree, count-le T (up_to class 3 T) m (λ k u i. up_to_in class 3 T k i (low k i)), count-le (up_to class 3 (greedy g m ks)) (greedy g m ks) m (λ k u i. up_to_less class 3 (greedy g m ks) k i))
