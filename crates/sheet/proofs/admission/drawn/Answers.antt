use Rattle.sheet.proofs.Drawing.{drawn_is}
use Rattle.sheet.proofs.admission.drawn.Goals as goal

pub returns : goal.returns
returns c = drawn_is _
