use Rattle.std.proofs.Common.{◌≡◌, IfSome, rules}
use Rattle.std.specs.Int.{trailing_zeros}
use mir.Syntax.{w32}
use Rattle.networks.proofs.Firsts.{lowest_is}
use Rattle.networks.proofs.words.lowest.Goals as goal

pub returns : goal.returns
returns c =
    let at : IfSome c.then.result (λ k. k ≡ trailing_zeros w32 c.args.word) = search rules in
    lowest_is c.args.word c.ranges.word.fits c.then.result c.then.ensures.variant at
