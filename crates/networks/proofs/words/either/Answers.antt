use Rattle.networks.proofs.Bits.{bits-or}
use Rattle.networks.proofs.words.either.Goals as goal

pub returns : goal.returns
returns c = bits-or c.args.a c.args.b
