use Rattle.std.proofs.Common.{◌&&◌, not, map, get_or, set, sym, ap, ◌∙◌, ap₂, arith}
use Rattle.std.proofs.lemmas.List.{length-map}
use Rattle.stories.specs.Assembly.{taken}
use Rattle.topology.specs.Matrices.{entry}
use Rattle.networks.specs.Words.{bits}
use Rattle.networks.proofs.Firsts.{first_member}
use Rattle.assembly.specs.Figures.{linked}
use Rattle.assembly.proofs.Touching.{untouched, touched, all_touched}
use Rattle.assembly.proofs.Linking.{taken_by_row}
use Rattle.assembly.proofs.figures.take_to_links.Goals as goal

pub loop-k-init : goal.loop-k-init
loop-k-init g c = untouched _ _ _ _ _ (ap (λ i. bits i.left) c.into_iter-k-iterator.ensures.into_iter_gives ∙ ap bits c.members_of-k-items.ensures)

pub loop-k-preserved : goal.loop-k-preserved
loop-k-preserved g c =
    let o = g.N.Arithmetic.ops in
    let m = g.N.Arithmetic.mean in
    let now = map m c.loop-k.voltages in
    let k = c.in-Some.k in
    let took = c.in-Some.ensures.steps in
    touched o (λ k a. taken o (entry c.cut-row.result k) (m c.get-voltage.result) a) (bits c.common-signed.result) _ _ _ now _ k c.loop-k.invariant took.0 took.1
    (omega (arith, length-map c.loop-k.voltages m, (first_member (bits c.loop-k.k-iterator.left) 0 32 k (sym took.0)).1))
    (c.put.ensures ∙ ap (set now k) (c.take-sum.ensures ∙ ap₂ (λ s a. taken o s (m c.get-voltage.result) a) c.sign_at.ensures c.get.ensures))

pub returns : goal.returns
returns g c =
    let o = g.N.Arithmetic.ops in
    let m = g.N.Arithmetic.mean in
    let t = c.args.t in
    let old = map m c.args.voltages.now in
    let row = c.cut-row.result in
    let i = c.loop-k.invariant in
    record {
      length = omega (arith, i.long, length-map c.args.voltages.now m);
      links = λ parts fr mt k l.
          all_touched o (λ k a. taken o (entry row k) (m c.get-voltage.result) a) (bits c.common-signed.result) _ old _ i c.in-None.ensures.steps.0 k l
          ∙ taken_by_row o parts t row (bits c.common-signed.result) (m c.get-voltage.result) old k
          (ap (λ T. T k) c.common-signed.ensures ∙ ap₂ (λ a b. a && b) (ap (λ T. T k) c.less-links.ensures ∙ ap₂ (λ a b. a && not b) (ap (λ T. T k) fr.link) (ap (λ T. T k) fr.tree)) (c.either.ensures k))
          (ap (λ s. entry s k) c.cut-row.ensures ∙ fr.rows t k mt l)
          ∙ ap (λ u. linked o parts t u k (get_or old k o.nought)) c.get-voltage.ensures;
    }
