use Rattle.std.proofs.Common.{◌≡◌, rules}
use Rattle.topology.specs.Rows.{nothing}
use Rattle.topology.specs.Trees.{cut_at_place}
use Rattle.topology.proofs.Making.{made_each}
use Rattle.topology.proofs.rows.cuts_of.Goals as goal

pub returns : goal.returns
returns c t l =
    made_each _ (λ t y. y ≡ cut_at_place c.args.plan.now c.args.word t) _ 32 (λ k y q l called. search rules) _ t nothing c.from_fn.ensures.items l
