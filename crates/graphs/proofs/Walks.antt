-- Walks can be joined, turned round and carried into a larger set. Assumes nothing.
use Rattle.std.proofs.Common.{◌≡◌, ℕ, cond, eqb, ◌∷◌, sym, refl, ap, ◌∙◌, subst, inl, inr}
use mathlib.Core.Bool.{false≢true}
use Rattle.std.proofs.lemmas.Bool.{eqb-true, or_cases}
use Rattle.graphs.specs.Graph.{Graph, Set, ◌∈◌, ◌⊆◌, Walk, Spans, here, along, against, passed, listed, way, plus, minus}

-- the same walk, said to begin at an equal node
unfoldable pub from : {g : Graph} {S : Set} {a b c : ℕ} → a ≡ b → Walk g S b c → Walk g S a c
from e (here d) = here (e ∙ d)
from e (along k m d w) = along k m (e ∙ d) w
from e (against k m d w) = against k m (e ∙ d) w

pub then : {g : Graph} {S : Set} {a b c : ℕ} → Walk g S a b → Walk g S b c → Walk g S a c
then (here e) v = from e v
then (along k m e w) v = along k m e (then w v)
then (against k m e w) v = against k m e (then w v)

pub one_along : {g : Graph} {S : Set} (k : ℕ) → k ∈ S → Spans g S k
one_along k m = along k m refl (here refl)

pub one_against : {g : Graph} {S : Set} (k : ℕ) → k ∈ S → Walk g S (g.head k) (g.tail k)
one_against k m = against k m refl (here refl)

pub back : {g : Graph} {S : Set} {a c : ℕ} → Walk g S a c → Walk g S c a
back (here e) = here (sym e)
back {g} {S} (along k m e w) = then (back w) (against k m refl (here (sym e)))
back {g} {S} (against k m e w) = then (back w) (along k m refl (here (sym e)))

-- a walk over S is a walk over R if R joins the ends of each member of S
pub through : {g : Graph} {S R : Set} {a c : ℕ} → ((k : ℕ) → k ∈ S → Spans g R k) → Walk g S a c → Walk g R a c
through f (here e) = here e
through f (along k m e w) = from e (then (f k m) (through f w))
through f (against k m e w) = from e (then (back (f k m)) (through f w))

-- the same walk in a larger set
unfoldable pub into : {g : Graph} {S R : Set} {a c : ℕ} → S ⊆ R → Walk g S a c → Walk g R a c
into f (here e) = here e
into f (along k m e w) = along k (f k m) e (into f w)
into f (against k m e w) = against k (f k m) e (into f w)

-- what is the same at both ends of each member is the same at both ends of a walk
pub steady : {g : Graph} {S : Set} {X : Type 0} {a c : ℕ} (f : ℕ → X) → ((k : ℕ) → k ∈ S → f (g.tail k) ≡ f (g.head k)) → Walk g S a c → f a ≡ f c
steady f h (here e) = ap f e
steady f h (along k m e w) = ap f e ∙ h k m ∙ steady f h w
steady f h (against k m e w) = ap f e ∙ sym (h k m) ∙ steady f h w

-- neither changes what is passed
pub passed-from : {g : Graph} {S : Set} {a b c : ℕ} (e : a ≡ b) (w : Walk g S b c) → passed (from e w) ≡ passed w
unfolding from passed
passed-from e (here d) = refl
passed-from e (along k m d w) = refl
passed-from e (against k m d w) = refl

pub passed-into : {g : Graph} {S R : Set} {a c : ℕ} (f : S ⊆ R) (w : Walk g S a c) → passed (into f w) ≡ passed w
unfolding into passed
passed-into f (here d) = refl
passed-into f (along k m d w) = ap (λ ks. k ∷ ks) (passed-into f w)
passed-into f (against k m d w) = ap (λ ks. k ∷ ks) (passed-into f w)

pub way-into : {g : Graph} {S R : Set} {a c : ℕ} (f : S ⊆ R) (w : Walk g S a c) (t : ℕ) → way (into f w) t ≡ way w t
unfolding into way
way-into f (here d) t = refl
way-into f (along k m d w) t = ap (cond (eqb t k) plus) (way-into f w t)
way-into f (against k m d w) t = ap (cond (eqb t k) minus) (way-into f w t)

-- a walk passes only members
pub passed-member : {g : Graph} {S : Set} {a c : ℕ} (w : Walk g S a c) (k : ℕ) → k ∈ listed (passed w) → k ∈ S
unfolding passed listed
passed-member (here d) k h = absurd (false≢true h)
passed-member {g} {S} (along j m d w) k h = elim (or_cases (eqb k j) (listed (passed w) k) h) [ inl e ↦ subst (λ i. i ∈ S) (sym (eqb-true k j e)) m | inr e ↦ passed-member w k e ]
passed-member {g} {S} (against j m d w) k h = elim (or_cases (eqb k j) (listed (passed w) k) h) [ inl e ↦ subst (λ i. i ∈ S) (sym (eqb-true k j e)) m | inr e ↦ passed-member w k e ]
