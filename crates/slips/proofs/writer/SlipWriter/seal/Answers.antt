use Rattle.std.proofs.Common.{◌≡◌, ℕ, ◌+◌, ◌/◌, ◌≤◌, sym, subst, arith, rules}
use Rattle.slips.specs.Writing.{ReadsBack}
use Rattle.slips.proofs.Holding.{sealed_left}
use Rattle.slips.proofs.writer.SlipWriter.seal.Goals as goal

pub returns-clause-reads_back : goal.returns-clause-reads_back
returns-clause-reads_back c s h =
    let w = c.args.self in
    let within : w.counters.at ≤ 2240 = omega (arith, w.counters.room, w.counters.below) in
    let e : c.div_ceil.result ≡ (w.counters.at + 7) / 8 = omega (arith, c.div_ceil.ensures) in
    subst (λ (n : ℕ). ReadsBack s w.area.now n) (sym e) (sealed_left s w.area.now w.counters.at w.counters.next within (search rules) h)
