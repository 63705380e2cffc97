use Rattle.std.proofs.Common.{rules, sym}
use Rattle.networks.specs.Words.{bits}
use Rattle.networks.proofs.Firsts.{first_member}
use Rattle.printed_key.proofs.Listing.{word_in, lowest_written, all_written}
use Rattle.printed_key.proofs.words.SignedDisplay.fmt.Goals as goal

pub signed_place-requires : goal.signed_place-requires
signed_place-requires g c = (first_member (bits c.loop-k.k-iterator.left) 0 32 c.in-Some.k (sym c.in-Some.ensures.steps.0)).1

pub loop-k-preserved : goal.loop-k-preserved
loop-k-preserved g c p =
    let left = bits c.loop-k.k-iterator.left in
    let took = c.in-Some.ensures.steps in
    lowest_written _ (word_in c.args.self.now.0) _ _ _ left _ c.in-Some.k _ (c.loop-k.invariant p) took.0 took.1 (search rules)

pub returns-clause-writes : goal.returns-clause-writes
returns-clause-writes g c p e = all_written _ (word_in c.args.self.now.0) _ _ _ (bits c.loop-k.k-iterator.left) (c.loop-k.invariant p) c.in-None.ensures.steps.0
