use Rattle.std.proofs.Common.{◌||◌, ap, ◌∙◌, arith}
use Rattle.graphs.specs.Graph.{Set}
use Rattle.networks.specs.Words.{bits}
use Rattle.topology.proofs.Crossing.{row_across}
use Rattle.topology.proofs.rows.across.Goals as goal

pub returns : goal.returns
returns c = λ a b left right.
    row_across c.args.leaving c.args.entering c.either.result c.less-against.result a b left right (λ k. c.either.ensures k ∙ ap (λ (S : Set). S k || bits c.less-against.result k) c.less.ensures) c.less-against.ensures (omega arith) (omega arith)
