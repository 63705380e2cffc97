use Rattle.std.proofs.Common.{map, sym, ◌∙◌, arith}
use Rattle.sheet.specs.Calls.{valued, zero_row}
use Rattle.stepping.proofs.Rows.{gives_same, others_same, row-renewed}
use Rattle.stepping.proofs.figures.Figures.renew_row.Goals as goal

pub returns : goal.returns
returns g c =
    let o = g.N.Arithmetic.ops in
    let m = g.N.Arithmetic.mean in
    let z = zero_row (valued o m g.N.Arithmetic.nil) in
    record {
      rows =
          row-renewed o m c.args.plan.now (map m c.args.self.now.currents.now) (map m c.args.self.now.voltages.now) c.args.rows.now _ c.args.k z _ _ (omega arith) (sym c.is_placed.ensures ∙ c.if-not-is_placed.false)
          (c.renew.ensures z) c.get-current.ensures c.get-voltage.ensures;
      gives = gives_same c.args.rows.now _ c.args.k z _ _ (c.renew.ensures z) (omega arith);
      others = others_same c.args.plan.now c.args.rows.now _ c.args.k _ (sym c.is_placed.ensures ∙ c.if-not-is_placed.false) (c.renew.ensures z);
    }
