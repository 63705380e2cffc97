use Rattle.std.proofs.Common.{sym, ◌∙◌}
use Rattle.graphs.specs.Cuts.{loop_row}
use Rattle.topology.specs.Meanings.{TreeAnswer}
use Rattle.networks.specs.Networks.{graph_of}
use Rattle.topology.specs.Rows.{shown}
use Rattle.networks.specs.Words.{bits}
use Rattle.topology.specs.Trees.{tree_set}
use Rattle.topology.proofs.Answering.{with_meaning, meets_loop, meets_cut, meets_none, loose-found, late-found, loop_shown, cut-shown}
use Rattle.networks.proofs.Bits.{set_word}
use Rattle.networks.proofs.Firsts.{first_member}
use Rattle.topology.proofs.Meaning.{tree_answer}
use Rattle.topology.proofs.calls.tree.Goals as goal

pub loop_along-requires : goal.loop_along-requires
loop_along-requires c = (first_member (bits c.less.result) 0 32 c.in-Some.k (sym (c.in-Some.ensures))).1

pub returns-in-Some : goal.returns-in-Some
returns-in-Some c =
    with_meaning (TreeAnswer c.args.plan.now) (tree_answer c.args.plan.now)
    (meets_loop c.args.plan.now c.in-Some.k c.loop_along.result
    (c.in-Some.ensures ∙ loose-found c.args.plan.now c.kept_branches-kept.result c.kept_branches-kept.ensures c.voltage_sources-voltages.result c.less.result c.voltage_sources-voltages.ensures c.less.ensures)
    (loop_shown c.args.plan.now c.kept_branches-kept.result c.kept_branches-kept.ensures c.voltage_sources-voltages.result c.common.result c.in-Some.k c.loop_along.result c.voltage_sources-voltages.ensures c.common.ensures (c.loop_along.ensures ∙ (λ i. shown (loop_row (graph_of (c.of-rows.ensures.plan i)) (bits (c.of-rows.ensures.tree i)) 32 c.in-Some.k)))))

pub returns-in-Some-lowest : goal.returns-in-Some-lowest
returns-in-Some-lowest c =
    with_meaning (TreeAnswer c.args.plan.now) (tree_answer c.args.plan.now)
    (meets_cut c.args.plan.now c.in-Some-lowest.k c.cut.result
    (c.in_default.ensures ∙ loose-found c.args.plan.now c.kept_branches-kept.result c.kept_branches-kept.ensures c.voltage_sources-voltages.result c.less.result c.voltage_sources-voltages.ensures c.less.ensures)
    (c.in-Some-lowest.ensures ∙ late-found c.args.plan.now c.kept_branches-kept.result c.kept_branches-kept.ensures c.no_current_sources-no_currents.result c.less-2.result c.no_current_sources-no_currents.ensures c.less-2.ensures)
    (cut-shown c.args.plan.now c.no_current_sources-no_currents.result c.in-Some-lowest.k c.tail.result.number c.cut.result c.no_current_sources-no_currents.ensures c.tail.ensures c.cut.ensures))

pub returns : goal.returns
returns c =
    with_meaning (TreeAnswer c.args.plan.now) (tree_answer c.args.plan.now)
    (meets_none c.args.plan.now c.kept_branches-kept.result
    (c.in_default.ensures ∙ loose-found c.args.plan.now c.kept_branches-kept.result c.kept_branches-kept.ensures c.voltage_sources-voltages.result c.less.result c.voltage_sources-voltages.ensures c.less.ensures)
    (c.in_default-lowest.ensures ∙ late-found c.args.plan.now c.kept_branches-kept.result c.kept_branches-kept.ensures c.no_current_sources-no_currents.result c.less-2.result c.no_current_sources-no_currents.ensures c.less-2.ensures)
    (set_word c.kept_branches-kept.result (tree_set c.args.plan.now) c.kept_branches-kept.type_inv c.kept_branches-kept.ensures))
