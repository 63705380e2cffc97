use Rattle.std.proofs.Common.{◌∷◌, decimal, rules}
use Rattle.std.specs.Fmt.{digits}
use Rattle.printed_key.proofs.Tables.{all_read, read_at}
use Rattle.printed_key.proofs.words.place.Goals as goal

pub returns : goal.returns
unfolding all_read digits
returns c = search (rules, read_at (λ k. 32 ∷ decimal k))
