use Rattle.slips.proofs.Ending.{blanked_zeros}
use Rattle.slips.proofs.writer.SlipWriter.drop.Goals as goal

pub returns-clause-zeros : goal.returns-clause-zeros
returns-clause-zeros c = blanked_zeros c.args.self.area.now c.blank_area.ensures.area
