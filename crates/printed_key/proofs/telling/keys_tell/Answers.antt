use Rattle.printed_key.proofs.Blanking.{blank_key}
use Rattle.printed_key.proofs.Parting.{one_key}
use Rattle.printed_key.proofs.Refusing.{ends}
use Rattle.printed_key.proofs.telling.keys_tell.Goals as goal

pub returns : goal.returns
returns c = record { ends = ends; branchless = blank_key; apart = one_key }
