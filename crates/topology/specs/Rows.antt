-- Signs, and rows of signs as a shown loop, cut or row. Assumes nothing.
--
-- sign_of      the sign that a value of the program is
-- marks        plus or minus
-- backs        minus
-- nothing      a row without members
-- shown f      the row f: the word of its members, and that of those with minus
-- cut_from     the cut of the nodes that the members of S join with the node x
use Rattle.std.specs.Prelude.{ℕ, Bool, true, false}
use Rattle.graphs.specs.Cuts.{leaves}
use Rattle.graphs.specs.Graph as graphs
use Rattle.graphs.specs.Graph.{Graph, Set, plus, none, minus}
use Rattle.graphs.specs.Labels.{joins}
use Rattle.sheet.specs.declared.refusal.Shown.{Shown}
use Rattle.topology.specs.declared.sign.Sign.{Sign}
use Rattle.topology.specs.declared.sign.Sign.TheVariants.{Plus, Zero, Minus}
use Rattle.networks.specs.Words.{word}

abbrev pub sign_of : Sign → graphs.Sign
sign_of Plus = plus
sign_of Zero = none
sign_of Minus = minus

abbrev pub marks : graphs.Sign → Bool
marks plus = true
marks none = false
marks minus = true

abbrev pub backs : graphs.Sign → Bool
backs plus = false
backs none = false
backs minus = true

abbrev pub nothing : Shown
nothing = record { members = 0; against = 0 }

abbrev pub shown : (ℕ → graphs.Sign) → Shown
shown f = record { members = word (λ k. marks (f k)); against = word (λ k. backs (f k)) }

unfoldable pub cut_from : Graph → Set → ℕ → Shown
cut_from g S x = shown (leaves g (joins g S 32 x))
