-- The tree of a plan, kept one branch and one class at a time.
use Rattle.std.proofs.Common.{◌≡◌, ℕ, ◌+◌, cond, sym, ap, ◌∙◌, add-one}
use Rattle.graphs.specs.Graph.{Graph, Set, empty}
use Rattle.graphs.specs.Greedy.{keep, kept, greedy, of_class, members, in_order}
use Rattle.graphs.proofs.Order.{kept-members, kept-order}

-- one branch more of a class
pub sweep_more : (g : Graph) (A S R V : Set) (k : ℕ) → R ≡ kept g 32 (members A k) S → V ≡ cond (A k) (keep g 32 R k) R → V ≡ kept g 32 (members A (k + 1)) S
sweep_more g A S R V k before e =
    e
    ∙ ap (λ X. cond (A k) (keep g 32 X k) X) before
    ∙ sym (kept-members g 32 A S k)
    ∙ ap (λ n. kept g 32 (members A n) S) (sym (add-one k))

-- one class more
pub class_more : (g : Graph) (class : ℕ → ℕ) (P R V : Set) (n : ℕ) → R ≡ greedy g 32 (in_order class P 32 n) → V ≡ kept g 32 (members (of_class class n P) 32) R → V ≡ greedy g 32 (in_order class P 32 (n + 1))
class_more g class P R V n before e =
    e
    ∙ ap (kept g 32 (members (of_class class n P) 32)) before
    ∙ sym (kept-order g 32 class P empty 32 n)
    ∙ ap (λ m. greedy g 32 (in_order class P 32 m)) (sym (add-one n))
