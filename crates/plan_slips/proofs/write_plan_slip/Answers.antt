use Rattle.std.proofs.Common.{◌≡◌, ℕ, ◌+◌, ◌++◌, List, [], ◌∷◌, Some, Err, append-nil, refl, sym, ap, ◌∙◌, subst, arith, rules}
use Rattle.std.proofs.lemmas.Result.{err_from_is_err_and}
use Rattle.slips.specs.declared.row.SlipRow.{SlipRow}
use Rattle.slips.specs.declared.writer.SlipWriter.{SlipWriter}
use Rattle.slips.specs.Writing.{blanked}
use Rattle.slips.proofs.Whole.{Written, row_written, sealed, ended}
use Rattle.topology.specs.Trees.{loop_of}
use Rattle.plan_slips.specs.Own.{row_of, own_rows}
use Rattle.plan_slips.proofs.Adding.{begun, own_slip, row_more, rows_after, rows_whole}
use Rattle.plan_slips.proofs.write_plan_slip.Goals as goal
use Rattle.plan_slips.proofs.write_plan_slip.Goals.{in-Some+in_ok-row, in_default}

pub loop-k-init : goal.loop-k-init
loop-k-init c = let o = c.open-writer.ensures in (refl, begun c.args.plan.now c.in_ok-tree.tree o.area o.place o.next o.holds)

pub returns-in_err-row : goal.returns-in_err-row
returns-in_err-row c =
    let w = c.in_ok-tree.tree in
    let k = c.loop-k.k in
    let p = c.args.plan.now in
    let one : row_of k (Some c.in-Some.row) ≡ record { number = k; entries = c.entries_of.result } ∷ [] = ap (λ es. record { number = k; entries = es } ∷ []) (sym c.entries_of.ensures.value) in
    let whole = rows_whole p w k (omega arith) (c.in-Some.ensures.answer ∙ (λ i. loop_of (c.of-rows.ensures.plan i) (c.of-rows.ensures.tree i) k)) one in
    let r = c.from_residual-in_err-row in
    let q = err_from_is_err_and r.result r.ensures.1 in
    let s =
    λ (b : List ℕ) (f : b ≡ blanked c.row.new.self.area.now).
    ended c.loop-k.invariant.1 k c.entries_of.result (rows_after p w k) whole c.in_err-row.field-0.0 c.in_err-row.ensures.does r.result {b = b} (q.1 ∙ ap Err q.2) f
    in
    own_slip c.in_ok-tree.ensures.answer (s _ (search rules))

pub loop-k-preserved : goal.loop-k-preserved
loop-k-preserved c =
    let p = c.args.plan.now in
    let k = c.loop-k.k in
    let w = c.in_ok-tree.tree in
    let of : loop_of c.of-rows.result.plan.now c.of-rows.result.tree k ≡ loop_of p w k = λ i. loop_of (c.of-rows.ensures.plan i) (c.of-rows.ensures.tree i) k in
    let held = λ (x : SlipWriter). Written w (own_rows p w (k + 1)) c.args.area.now x.area.now x.counters.at x.counters.next in
    elim c.match-loop_in.branch [
      | in-Some+in_ok-row b ↦
          let e = b.in_ok-row.ensures in
          let one : row_of k (Some b.in-Some.row) ≡ record { number = k; entries = b.entries_of.result } ∷ [] = ap (λ es. record { number = k; entries = es } ∷ []) (sym b.entries_of.ensures.value) in (
            ap (λ (x : SlipWriter). x.area.ghost_name) b.writer-is ∙ e.lender ∙ c.loop-k.invariant.0,
            subst held (sym b.writer-is)
                (subst (λ (xs : List SlipRow). Written w xs c.args.area.now b.row.new.self.area.now b.row.new.self.counters.at b.row.new.self.counters.next)
                (ap (λ xs. own_rows p w k ++ xs) (sym one) ∙ row_more p w k (b.in-Some.ensures.answer ∙ of))
                (row_written c.loop-k.invariant.1 k b.entries_of.result e.does e.lengths e.past e.holds)),
          )
      | in_default b ↦ (
        ap (λ (x : SlipWriter). x.area.ghost_name) b.writer-is ∙ c.loop-k.invariant.0,
        subst held (sym b.writer-is)
            (subst (λ (xs : List SlipRow). Written w xs c.args.area.now c.loop-k.writer.area.now c.loop-k.writer.counters.at c.loop-k.writer.counters.next)
            (sym (append-nil (own_rows p w k)) ∙ row_more p w k (b.in_default.ensures.answer ∙ of))
            c.loop-k.invariant.1),
      )
    ]

pub returns : goal.returns
returns c =
    let w = c.in_ok-tree.tree in
    let p = c.args.plan.now in
    let l = c.loop-k in
    let e : l.k ≡ 32 = omega arith in
    let all = subst (λ n. Written w (own_rows p w n) c.args.area.now l.writer.area.now l.writer.counters.at l.writer.counters.next) e l.invariant.1 in
    let s = λ (b : List ℕ) (f : b ≡ l.writer.area.now). sealed all c.seal.result {b = b} c.seal.ensures.answers c.seal.ensures.area c.seal.ensures.reads_back f in
    own_slip c.in_ok-tree.ensures.answer (s _ (search rules))
