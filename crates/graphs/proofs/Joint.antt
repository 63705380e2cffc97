-- The theorems, gathered as the joint statement has them. Assumes nothing.
use Rattle.std.proofs.Common.{◌≡◌, ℕ, ◌≤◌, eqb, ◌↔◌, List, ◌∷◌, ◌++◌, sym, ap, ◌∙◌, subst}
use Rattle.std.proofs.lemmas.Bool.{or_left}
use Rattle.graphs.specs.Graph.{Graph, Set, ◌∈◌, ◌⊆◌, empty, with, both, count, Below, Ends, Spans, listed, LoopFree, Independent, Tree}
use Rattle.graphs.specs.Cuts.{side, cut_row}
use Rattle.graphs.specs.Greedy.{greedy}
use Rattle.graphs.specs.Groups.{Group}
use Rattle.graphs.specs.Joint.{Joining, Keeping, Counting, Listing, BestTree, BestProper, Rows, RowLaws, Balances, TheoryOfTrees}
use Rattle.graphs.proofs.Sets.{in_with, with_more, without_less}
use Rattle.graphs.proofs.Labels.{walk_label, label_walk, to_label, label_least, joins_walk, walk_joins}
use Rattle.graphs.proofs.Trails.{shorten, free_independent, independent_free, keep_free, loop_along, along_loop}
use Rattle.graphs.proofs.Rank.{components-with, components_same, forest, rank}
use Rattle.graphs.proofs.Greedy.{kept_spans, listed-append, greedy_front_same, greedy-turn, greedy_tree, greedy_most}
use Rattle.graphs.proofs.Classes.{trees_same, most_up_to, refused_loop, late-cut, proper_greedy, most_first, fewest_last}
use Rattle.graphs.proofs.Order.{order_lists, order_sorted, members_sorted}
use Rattle.graphs.proofs.CutRows.{row_own, row_other, cut_row_lem, cut_alone, cut-incidence, fall_incidence, row_falls}
use Rattle.graphs.proofs.LoopRows.{loop_row_lem, loop_falls, row_leaves, loop_leaves, loop_cut}
use Rattle.graphs.proofs.Balances.{nodes_cuts, falls_links, links_loops}

joining : (g : Graph) (S : Set) (m : ℕ) → Below m S → Joining g S m
joining g S m b = record {
  exactly = λ a c. (λ w. walk_label m b w, λ e. label_walk g S m e);
  reaches = to_label g S m;
  least = λ a c w. label_least m b w;
}

keeping : (g : Graph) (S : Set) → Keeping g S
keeping g S = record {
  shortens = λ a c w. shorten w;
  exactly = (free_independent g S, independent_free g S);
  keeps = keep_free g S;
  closes = λ k h w. loop_along k h w;
  is_loop = λ k l. along_loop k (with S k) (in_with S k) (with_more S k) l;
}

counting : (g : Graph) (S : Set) (m n : ℕ) → Counting g S m n
counting g S m n = record {
  lowers = λ k b lt lh h. components-with g S m n k b (lt, lh) h;
  stays = λ k b w. components_same g S m n k b w;
  forest = λ f ends. forest g S m n (free_independent g S f) ends;
  rank = λ F s f b es ef spans. rank g S F m n s f b es ef spans;
}

best : (g : Graph) (m n : ℕ) (P : Set) (class : ℕ → ℕ) (ks : List ℕ) → Listing g m n P class ks → BestTree g m P class ks
best g m n P class ks l = record {
  tree = greedy_tree g m P ks l.below l.lists;
  spans = λ fs k h. kept_spans g m fs empty k h;
  turn = λ fs rs k e new. subst (λ is. k ∈ greedy g m is ↔ (Spans g (greedy g m fs) k → ⊥)) (sym e) (greedy-turn g m fs rs k (within fs (k ∷ rs) e) new);
  front = λ fs rs e k. subst (λ is. both (greedy g m is) (listed fs) k ≡ greedy g m fs k) (sym e) (greedy_front_same g m fs rs (within fs rs e) k);
  front_most = λ fs rs e T free. subst (λ is. count (both T (listed fs)) m ≤ count (both (greedy g m is) (listed fs)) m) (sym e) (greedy_most g m n fs rs T (λ k h. l.below k (placed fs rs e k h)) (λ k h. l.ends k (placed fs rs e k h)) free);
  most = λ T c part free. most_up_to g m P ks class l.below l.lists l.sorted n c T l.ends part free;
  refused = refused_loop g m P ks class l.below l.lists l.sorted;
  late = late-cut g m P ks class l.below l.lists l.sorted;
}
  where
    within : (fs rs : List ℕ) → ks ≡ fs ++ rs → Below m (listed (fs ++ rs))
    within fs rs e j h = l.below j (sym (l.lists j) ∙ ap (λ is. listed is j) e ∙ h)

    placed : (fs rs : List ℕ) → ks ≡ fs ++ rs → listed fs ⊆ P
    placed fs rs e k h = sym (l.lists k) ∙ ap (λ is. listed is k) e ∙ listed-append fs rs k ∙ or_left (listed fs k) (listed rs k) h

proper : (g : Graph) (m n : ℕ) (P : Set) (class : ℕ → ℕ) (ks : List ℕ) → Listing g m n P class ks → ((k : ℕ) → k ∈ P → class k ≤ 4) → BestProper g m P class ks
proper g m n P class ks l classes = record {
  exactly = (λ p. proper_greedy g m P ks class l.below l.lists l.sorted classes p.0 p.1, λ h. (greedy g m ks, h));
  most = λ T p. most_first g m P ks class l.below l.lists l.sorted classes T p n l.ends;
  fewest = λ T p. fewest_last g m P ks class l.below l.lists l.sorted classes T p n l.ends;
}

rows : (g : Graph) (S : Set) (m : ℕ) → Below m S → LoopFree g S → Rows g S m
unfolding cut_row
rows g S m low f = record {
  sides = λ t x. (λ h. joins_walk g _ m h, λ w. walk_joins m (λ j h. low j (without_less S t j h)) w);
  row = λ P t k. cut_row_lem g P (side g S m t) k;
  own = λ t h. row_own g S m t (free_independent g S f) h;
  others = λ t k h d. row_other g S m t k low h d;
  alone = λ P t k h i. cut_alone g P S m t k low h i;
  loop_row_lem = λ k l j. loop_row_lem g S m k (free_independent g S f) low l j;
}

laws : {M : Type 0} (G : Group M) (g : Graph) (S : Set) (m n : ℕ) → Below m S → LoopFree g S → RowLaws G g S m n
unfolding cut_row
laws G g S m n low f =
    let free : Independent g S = free_independent g S f in
    record {
      falls = λ f k w. row_falls G g S m free low f k w;
      columns = λ u x k w. row_leaves G g S m free low (eqb x) u k w;
      transposed = λ f k lt lh. fall_incidence G g f n k lt lh;
      side-sum = λ u t k lt lh. cut-incidence G g (side g S m t) n k u lt lh;
      around = λ f k l out w. loop_falls G g S m free low f k l out w;
      loop_incidence = λ u x k l out w. loop_leaves G g S m free low (eqb x) u k l out w;
      orthogonal = λ u t k l out w. loop_cut G g S m free low u t k l out w;
    }

balances : {M : Type 0} (G : Group M) (g : Graph) (P S : Set) (m n : ℕ) → Below m P → Ends n g P → Tree g P S → Balances G g P S m n
balances G g P S m n b ends t = record {
  nodes_cuts = nodes_cuts G g P S m n b ends t;
  falls_links = falls_links G g P S m n b ends t;
  links_loops = links_loops G g P S m n b ends t;
}

pub theory : (N : Type 0) → TheoryOfTrees N
theory N = record {
  joining = joining;
  keeping = keeping;
  counting = counting;
  as_many = trees_same;
  listing = λ g m n c P class b ends f. record { below = b; ends = ends; lists = order_lists class P m c b f; sorted = order_sorted class P m c };
  ascending = members_sorted;
  best = best;
  proper = proper;
  rows = rows;
  laws = laws;
  balances = balances;
}
