use Rattle.std.proofs.Common.{◌^◌, ◌<◌, sym, ap, ◌∙◌, arith}
use Rattle.sheet.specs.declared.refusal.Shown.{Shown}
use Rattle.graphs.specs.Cuts.{turned}
use Rattle.topology.specs.Matrices.{entry}
use Rattle.networks.specs.Networks.{graph_of}
use Rattle.networks.specs.Words.{bits}
use Rattle.topology.proofs.ByCuts.{loop_by_cut}
use Rattle.networks.proofs.Networks.{loop_own, loop_outside}
use Rattle.topology.proofs.rows.TreeRows.passes.Goals as goal

pub returns-then-j-k : goal.returns-then-j-k
returns-then-j-k c = sym (loop_own (graph_of c.args.self.now.plan.now) (bits c.args.self.now.tree) 32 c.args.k c.args.j c.if-j-k.true)

pub returns-then-not-has : goal.returns-then-not-has
returns-then-not-has c = sym (loop_outside (graph_of c.args.self.now.plan.now) (bits c.args.self.now.tree) 32 c.args.k c.args.j c.if-j-k.false (sym c.if-not-has.ensures))

pub returns : goal.returns
returns c =
    let rows = c.args.self.now in
    let fits : rows.tree < 2 ^ 32 = omega arith in
    c.neg.ensures
    ∙ ap turned (c.sign_at.ensures ∙ ap (λ (s : Shown). entry s c.args.k) c.cut.ensures)
    ∙ loop_by_cut rows.plan.now rows.tree rows.cuts rows.are fits c.args.k c.args.j c.requires c.if-j-k.false (sym c.if-not-has.ensures)
