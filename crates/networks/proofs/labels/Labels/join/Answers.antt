use Rattle.std.proofs.Common.{get_or, rules}
use Rattle.std.proofs.lemmas.List.Edits.{map_over_more}
use Rattle.graphs.specs.Labels.{merge}
use Rattle.networks.proofs.labels.Labels.join.Goals as goal

pub loop-label-preserved : goal.loop-label-preserved
loop-label-preserved c =
    let ls = c.args.self.now.of in
    search (rules, map_over_more (merge (get_or ls c.args.a.number 0) (get_or ls c.args.b.number 0)))
