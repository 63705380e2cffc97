use mathlib.Core.Path.{fun_ext}
use Rattle.networks.proofs.Bits.{bits-and}
use Rattle.networks.proofs.words.common.Goals as goal

pub returns : goal.returns
returns c = fun_ext (bits-and c.args.a c.args.b)
