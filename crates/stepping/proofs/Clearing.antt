-- An area filled by calls that give one value. Assumes nothing.
use Rattle.std.proofs.Common.{◌≡◌, List, [], ◌∷◌, length, replicate, ap₂}
use Rattle.std.specs.List.{FoldsTo}

pub all_filled : {P V : Type 0} (R : P → V → P → Type 0) (x : V) → ((p : P) (y : V) (q : P) → R p y q → y ≡ x) → (p q : P) (ys : List V) → FoldsTo R p ys q → ys ≡ replicate (length ys) x
all_filled R x h p q [] c = λ i. []
all_filled R x h p q (y ∷ ys) c = ap₂ (λ y ys. y ∷ ys) (h p y c.0 c.1) (all_filled R x h c.0 q ys c.2)
