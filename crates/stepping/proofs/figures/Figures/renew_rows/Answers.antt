use Rattle.std.proofs.Common.{◌≡◌, map, sym, refl, ap, ◌∙◌, rules}
use Rattle.std.proofs.lemmas.Bool.{cond-true}
use Rattle.networks.specs.Networks.{placed}
use Rattle.networks.specs.Words.{bits}
use Rattle.networks.proofs.Firsts.{first_member}
use Rattle.sheet.specs.Meanings.{meant_row}
use Rattle.assembly.proofs.Members.{begun, taken_in, goes_on, ended}
use Rattle.stepping.proofs.Rows.{renewing}
use Rattle.stepping.proofs.figures.Figures.renew_rows.Goals as goal

pub loop-k-init : goal.loop-k-init
loop-k-init g c =
    let m = g.N.Arithmetic.mean in
    let p = c.args.framed.now.plan.now in
    let f = renewing g.N.Arithmetic.ops (map m c.args.self.now.currents.now) (map m c.args.self.now.voltages.now) in
    let start : c.into_iter-k-iterator.result.left ≡ c.placed.result = search rules in (
      begun f _ _ _ _ (ap bits start ∙ c.placed.ensures) refl,
      refl,
      λ k d e. refl,
    )

pub renew_row-requires : goal.renew_row-requires
renew_row-requires g c =
    let found = first_member (bits c.loop-k.k-iterator.left) 0 32 c.in-Some.k (sym c.in-Some.ensures.steps.0) in
    search (rules, found.1)

pub loop-k-preserved : goal.loop-k-preserved
loop-k-preserved g c =
    let m = g.N.Arithmetic.mean in
    let f = renewing g.N.Arithmetic.ops (map m c.args.self.now.currents.now) (map m c.args.self.now.voltages.now) in
    let took = c.in-Some.ensures.steps in
    let P = placed c.args.framed.now.plan.now in
    let k = c.in-Some.k in
    let rows = map (meant_row m) c.loop-k.rows in
    let row = c.renew_row.ensures in (
      goes_on f P _ _ _ _ _ k c.loop-k.invariant.0 took.0 took.1 (row.rows ∙ cond-true (P k) (f k rows) rows (taken_in f P _ _ _ k c.loop-k.invariant.0 took.0).0),
      row.gives ∙ c.loop-k.invariant.1,
      λ k d e. row.others k d e ∙ c.loop-k.invariant.2 k d e,
    )

pub returns-clause-rows : goal.returns-clause-rows
returns-clause-rows g c = ended _ _ _ _ _ c.loop-k.invariant.0 c.in-None.ensures.steps.0
