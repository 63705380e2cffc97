use Rattle.std.proofs.Common.{rules}
use Rattle.cards.proofs.Figures.{count_small}
use Rattle.cards.proofs.token.Token.count.Goals as goal

pub overflow_cast-result : goal.overflow_cast-result
overflow_cast-result c =
    let small = count_small c.args.kind c.args.self c.in_ok-n.n c.requires c.in_ok-n.ensures in
    search rules
