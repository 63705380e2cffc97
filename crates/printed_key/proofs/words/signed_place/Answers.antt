use Rattle.std.proofs.Common.{◌∷◌, true, false, rules, sym, ap, ◌∙◌}
use Rattle.std.specs.Fmt.{digits}
use Rattle.printed_key.specs.Blocks.{sided}
use Rattle.printed_key.proofs.Tables.{all_read, read_at}
use Rattle.printed_key.proofs.words.signed_place.Goals as goal

pub returns-then-against : goal.returns-then-against
unfolding all_read digits
returns-then-against c = search (rules, read_at (λ k. 32 ∷ sided true k)) ∙ ap (λ b. 32 ∷ sided b c.args.k) (sym c.if-against.true)

pub returns-else-against : goal.returns-else-against
unfolding all_read digits
returns-else-against c = search (rules, read_at (λ k. 32 ∷ sided false k)) ∙ ap (λ b. 32 ∷ sided b c.args.k) (sym c.if-against.false)
