use Rattle.std.proofs.Common.{◌≡◌, ◌↔◌, true, false, MatchOption, ◌∙◌, arith, rules}
use Rattle.std.proofs.lemmas.Bool.{le-ltb}
use Rattle.networks.proofs.Networks.{kind_found, past_places}
use Rattle.networks.proofs.network.is_of_kind.Goals as goal

pub returns-then-k-lt32 : goal.returns-then-k-lt32
returns-then-k-lt32 c =
    let says : MatchOption c.at.result (c.is_some_and.result ≡ false) (λ b. c.is_some_and.result ≡ true ↔ b.kind ≡ c.args.kind) = search rules in
    kind_found c.args.plan.now c.args.k c.args.kind c.at.result c.is_some_and.result (search rules) c.at.ensures says

pub returns-else-k-lt32 : goal.returns-else-k-lt32
returns-else-k-lt32 c = le-ltb c.args.k 32 (omega arith) ∙ past_places c.args.plan.now c.args.k c.args.kind (omega arith)
