use Rattle.cards.proofs.Figures.{Sofar}
use Rattle.cards.proofs.digits.digits.Given as goal

abbrev pub invariant-loop-d : goal.invariant-loop-d
invariant-loop-d l = Sofar l.text l.d-index l.n
