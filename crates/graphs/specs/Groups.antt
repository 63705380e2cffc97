-- Abelian groups, sums in them, and signs that act on them. Assumes nothing.
use Rattle.std.specs.Prelude.{◌≡◌, ℕ, suc, cond}
use Rattle.graphs.specs.Graph.{Graph, Set, Sign, plus, none, minus}

-- an abelian group on M
pub record Group (M : Type 0) : Type 0 where
  pub zero : M
  pub add : M → M → M
  pub neg : M → M
  pub assoc : (x y z : M) → add (add x y) z ≡ add x (add y z)
  pub comm : (x y : M) → add x y ≡ add y x
  pub unit : (x : M) → add x zero ≡ x
  pub inverse : (x : M) → add x (neg x) ≡ zero

-- x less y
abbrev pub sub : {M : Type 0} → Group M → M → M → M
sub G x y = G.add x (G.neg y)

-- the sum of f over the numbers below n
unfoldable pub sum : {M : Type 0} → Group M → (ℕ → M) → ℕ → M
sum G f ℕ.zero = G.zero
sum G f (suc n) = G.add (sum G f n) (f n)

-- the sum of f over the members of S below n
abbrev pub sum_over : {M : Type 0} → Group M → Set → (ℕ → M) → ℕ → M
sum_over G S f n = sum G (λ k. cond (S k) (f k) G.zero) n

-- a sign times an element: itself, zero or its negative
abbrev pub times : {M : Type 0} → Group M → Sign → M → M
times G plus x = x
times G none x = G.zero
times G minus x = G.neg x

-- by how much a function of nodes falls from the tail of k to its head
abbrev pub fall : {M : Type 0} → Group M → Graph → (ℕ → M) → ℕ → M
fall G g f k = sub G (f (g.tail k)) (f (g.head k))
