use Rattle.std.proofs.Common.{◌≡◌, ℕ, ◌-◌, cond, ◌++◌, length, drop, sym, ap, ◌∙◌, ap₂, arith}
use Rattle.std.proofs.lemmas.Bool.{le-leb, lt-leb}
use Rattle.station.specs.Station.{in_front}
use Rattle.station.proofs.put_in_front.Goals as goal

pub returns-then-length-buffer : goal.returns-then-length-buffer
unfolding in_front
returns-then-length-buffer c =
    let text = c.args.text.now in
    let buffer = c.args.buffer.now in
    ap₂ (λ xs (n : ℕ). xs ++ drop n buffer) c.copy_from_slice.ensures.after (let s : length text - 0 ≡ length text = omega arith in s)
    ∙ sym (ap (λ b. cond b (text ++ drop (length text) buffer) buffer) (le-leb (length text) (length buffer) c.if-length-buffer.true))

pub returns-else-length-buffer : goal.returns-else-length-buffer
unfolding in_front
returns-else-length-buffer c =
    let text = c.args.text.now in
    let buffer = c.args.buffer.now in
    sym (ap (λ b. cond b (text ++ drop (length text) buffer) buffer) (lt-leb (length text) (length buffer) c.if-length-buffer.false))
