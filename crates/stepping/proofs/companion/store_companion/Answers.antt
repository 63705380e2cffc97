use Rattle.std.proofs.Common.{map, ◌∙◌, arith}
use Rattle.sheet.specs.Meanings.{meant_row}
use Rattle.stories.specs.Steps.{row_at}
use Rattle.stepping.proofs.Companions.{row_at_lem, stored, not-stored}
use Rattle.stepping.proofs.companion.store_companion.Goals as goal

pub returns-in-Some : goal.returns-in-Some
returns-in-Some g c =
    let o = g.N.Arithmetic.ops in
    let m = g.N.Arithmetic.mean in
    c.store.ensures
    ∙ stored o c.args.plan.now (m c.args.h) (row_at o (map (meant_row m) c.args.rows.now)) c.args.k (map m c.args.area.now) c.in-Some.branch _ (omega arith) c.in-Some.ensures
    (row_at_lem o m c.args.rows.now c.args.k _ (omega (arith, c.type_inv.rows)))

pub returns-in-None : goal.returns-in-None
returns-in-None g c =
    let o = g.N.Arithmetic.ops in
    let m = g.N.Arithmetic.mean in
    not-stored o c.args.plan.now (m c.args.h) (row_at o (map (meant_row m) c.args.rows.now)) c.args.k (map m c.args.area.now) (omega arith) c.in-None.ensures
