use Rattle.std.proofs.Common.{◌≡◌, ℕ, ◌+◌, ◌*◌, List, get_or, drop, pos, ap, ◌∙◌, arith, rules}
use Rattle.std.proofs.lemmas.List.{drop_all}
use Rattle.slips.specs.Bits.{put_bits, high}
use Rattle.slips.specs.Entries.{code_of, entries_bits}
use Rattle.slips.proofs.Putting.{entries_turn}
use Rattle.slips.proofs.rows.put_entries.Goals as goal

pub loop-i-preserved : goal.loop-i-preserved
loop-i-preserved c =
    let i = c.loop-i.i in
    let es = c.args.entries.now in
    let e : c.code_of.result ≡ code_of (get_or es i (pos 0)) = search rules in
    ap (λ (a : List ℕ). put_bits a (c.args.at + 2 * (i + 1)) (entries_bits (drop (i + 1) es)))
    (c.put_word.ensures ∙ ap (λ (n : ℕ). put_bits c.loop-i.area (c.args.at + 2 * i) (high 2 n)) e)
    ∙ entries_turn c.loop-i.area c.args.at es i (omega arith)
    ∙ c.loop-i.invariant

pub returns : goal.returns
unfolding put_bits entries_bits
returns c = let z = drop_all c.loop-i.i c.args.entries.now (omega arith) in rw z at c.loop-i.invariant
