use Rattle.std.proofs.Common.{◌<◌, sym, ap, arith, rules}
use Rattle.graphs.proofs.Sets.{count-without}
use Rattle.graphs.specs.Graph.{count}
use Rattle.networks.specs.Words.{bits}
use Rattle.networks.proofs.Firsts.{first_member}
use Rattle.networks.proofs.ascending.MembersIterator.next.Goals as goal

pub returns-clause-goes : goal.returns-clause-goes
returns-clause-goes c =
    let S = bits c.args.self.now.left in
    let k = c.in_ok-k.k in
    let member = first_member S 0 32 k (sym c.in_ok-k.ensures) in
    let fewer : count (bits c.remove-self.result) 32 < count S 32 = omega (arith, ap (λ R. count R 32) c.remove-self.ensures, count-without S k 32 member.1 member.0) in
    search (rules, fewer)
