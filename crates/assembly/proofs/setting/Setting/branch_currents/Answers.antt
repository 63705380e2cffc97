use Rattle.assembly.proofs.setting.Setting.branch_currents.Goals as goal

pub returns : goal.returns
returns g c parts x fr holds h = c.currents_of.ensures parts x fr (c.flows_of-flows.ensures parts x fr holds h)
