use mathlib.Core.Path.{fun_ext}
use Rattle.networks.proofs.Bits.{bits_less}
use Rattle.networks.proofs.words.less.Goals as goal

pub returns : goal.returns
returns c = fun_ext (bits_less c.args.a c.args.b)
