use Rattle.std.proofs.Common.{◌≡◌, MatchOption, rules}
use Rattle.assembly.proofs.Reading.{level_read}
use Rattle.assembly.proofs.setting.Setting.level.Goals as goal

pub returns : goal.returns
returns g c =
    let read : MatchOption c.get.result (c.map_or.result ≡ c.zero.result) (λ r. c.map_or.result ≡ r.now.value) = search rules in
    level_read g.N.Arithmetic.ops g.N.Arithmetic.mean c.args.self.now.rows.now c.args.v c.get.result _ _ c.get.ensures.lookup.0 c.get.ensures.lookup.1 read c.zero.ensures.meaning
