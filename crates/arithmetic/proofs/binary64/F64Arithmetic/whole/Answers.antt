use Rattle.std.proofs.Common.{false, pos, ap, subst, arith}
use lib.Ieee.{binary64, of_int}
use lib.Ieee.Back.{round_whole}
use Rattle.arithmetic.specs.Binary64.{Whole}
use Rattle.arithmetic.proofs.binary64.F64Arithmetic.whole.Goals as goal

pub returns : goal.returns
unfolding of_int
returns c = record {
  meaning = ap (λ n. of_int binary64 (pos n)) c.min.ensures;
  exactly = subst (Whole (of_int binary64 (pos c.min.result))) c.min.ensures (round_whole binary64 false c.min.result (omega arith));
}
