use Rattle.std.proofs.Common.{rules}
use Rattle.assembly.proofs.setting.Setting.tree_voltages.Goals as goal

pub returns : goal.returns
returns g c parts fr levels = c.values_at.ensures _ _ fr.tree (λ k y l i called. search rules)
