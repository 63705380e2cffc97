-- Graphs, sets of branches, walks, loops and trees. Assumes nothing.
use Rattle.std.specs.Prelude.{◌≡◌, ℕ, zero, suc, ◌<◌, Bool, true, false, cond, not, ◌&&◌, ◌||◌, List, [], ◌∷◌, ◌==◌}

infix 50 ◌∈◌ ◌⊆◌
-- nodes and branches are numbers; each branch runs from its tail to its head
pub record Graph : Type 0 where
  pub tail : ℕ → ℕ
  pub head : ℕ → ℕ

-- a set of branches, or of nodes
abbrev pub Set : Type 0
Set = ℕ → Bool

-- k is a member of S
abbrev pub ◌∈◌ : ℕ → Set → Type 0
k ∈ S = S k ≡ true

-- every member of S is one of R
abbrev pub ◌⊆◌ : Set → Set → Type 0
S ⊆ R = (k : ℕ) → k ∈ S → k ∈ R

-- no branch at all
abbrev pub empty : Set
empty k = false

-- S and k besides
abbrev pub with : Set → ℕ → Set
with S k j = S j || j == k

-- S but for k
abbrev pub without : Set → ℕ → Set
without S k j = S j && not (j == k)

-- those of S that are in R too
abbrev pub both : Set → Set → Set
both S R k = S k && R k

-- how many of the numbers below m are in S
unfoldable pub count : Set → ℕ → ℕ
count S zero = zero
count S (suc m) = cond (S m) (suc (count S m)) (count S m)

-- the members of S are below m
abbrev pub Below : ℕ → Set → Type 0
Below m S = (k : ℕ) → k ∈ S → k < m

-- the ends of the members of S are below n
abbrev pub Ends : ℕ → Graph → Set → Type 0
Ends n g S = (k : ℕ) → k ∈ S → (g.tail k < n) × (g.head k < n)

-- which way a branch is passed, or which side of a cut it leaves: its own way, not at all, the other way
pub data Sign : Type 0 where
  plus none minus : Sign

-- a walk over members of S from a to c: a and c are one node, or it goes along a branch or against it, and on
pub data Walk (g : Graph) (S : Set) : ℕ → ℕ → Type 0 where
  here : {a c : ℕ} → a ≡ c → Walk g S a c
  along : {a c : ℕ} (k : ℕ) → k ∈ S → a ≡ g.tail k → Walk g S (g.head k) c → Walk g S a c
  against : {a c : ℕ} (k : ℕ) → k ∈ S → a ≡ g.head k → Walk g S (g.tail k) c → Walk g S a c

-- a walk over S joins the ends of the branch k
abbrev pub Spans : Graph → Set → ℕ → Type 0
Spans g S k = Walk g S (g.tail k) (g.head k)

-- the branches that a walk passes, in order
unfoldable pub passed : {g : Graph} {S : Set} {a c : ℕ} → Walk g S a c → List ℕ
passed (here e) = []
passed (along k m e w) = k ∷ passed w
passed (against k m e w) = k ∷ passed w

-- the way in which a walk first passes the branch t
unfoldable pub way : {g : Graph} {S : Set} {a c : ℕ} → Walk g S a c → ℕ → Sign
way (here e) t = none
way (along k m e w) t = cond (t == k) plus (way w t)
way (against k m e w) t = cond (t == k) minus (way w t)

-- the numbers of a list, as a set
unfoldable pub listed : List ℕ → Set
listed [] k = false
listed (j ∷ js) k = k == j || listed js k

-- no number of the list stands in it twice
unfoldable pub Distinct : List ℕ → Type 0
Distinct [] = Unit {0}
Distinct (k ∷ ks) = (listed ks k ≡ false) × Distinct ks

-- a walk that passes no branch twice
abbrev pub Trail : {g : Graph} {S : Set} {a c : ℕ} → Walk g S a c → Type 0
Trail w = Distinct (passed w)

-- a closed walk of at least one branch that passes no branch twice
pub record Loop (g : Graph) (S : Set) : Type 0 where
  pub start : ℕ
  pub around : Walk g S start start
  pub branch : ℕ
  pub passes : branch ∈ listed (passed around)
  pub once : Trail around

-- a loop that runs along k and then back over members of S
pub record LoopAlong (g : Graph) (S : Set) (k : ℕ) : Type 0 where
  pub back : Walk g S (g.head k) (g.tail k)
  pub once : Distinct (k ∷ passed back)

-- the way in which it passes the branch j
abbrev pub way_around : {g : Graph} {S : Set} {k : ℕ} → LoopAlong g S k → ℕ → Sign
way_around {k = k} l j = cond (j == k) plus (way l.back j)

-- S has no loop
abbrev pub LoopFree : Graph → Set → Type 0
LoopFree g S = Loop g S → ⊥

-- no member has its ends joined by the others
abbrev pub Independent : Graph → Set → Type 0
Independent g S = (k : ℕ) → k ∈ S → Spans g (without S k) k → ⊥

-- S is a tree of P: some of its branches, without a loop, that join what P joins
pub record Tree (g : Graph) (P S : Set) : Type 0 where
  pub placed : S ⊆ P
  pub free : LoopFree g S
  pub spans : (a c : ℕ) → Walk g P a c → Walk g S a c
