use Rattle.std.specs.Fmt.{IsPlainFormatter}
use Rattle.networks.specs.Words.{bits}
use Rattle.printed_key.proofs.Listing.{word_in, Remains}
use Rattle.printed_key.proofs.words.SignedDisplay.fmt.Given as goal

abbrev pub invariant-loop-k : goal.invariant-loop-k
invariant-loop-k g l = IsPlainFormatter l.initial.f → Remains g.W.Write.write_str_gives (word_in l.self.0) l.initial.f l.f (bits l.self.0.members) (bits l.k-iterator.left)
