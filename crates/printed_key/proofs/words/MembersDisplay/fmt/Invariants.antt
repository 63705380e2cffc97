use Rattle.std.proofs.Common.{decimal}
use Rattle.std.specs.Fmt.{IsPlainFormatter}
use Rattle.networks.specs.Words.{bits}
use Rattle.printed_key.proofs.Listing.{Remains}
use Rattle.printed_key.proofs.words.MembersDisplay.fmt.Given as goal

abbrev pub invariant-loop-k : goal.invariant-loop-k
invariant-loop-k g l = IsPlainFormatter l.initial.f → Remains g.W.Write.write_str_gives decimal l.initial.f l.f (bits l.self.0) (bits l.k-iterator.left)
