use Rattle.std.proofs.Common.{◌≡◌, ap, ◌∙◌, rules}
use Rattle.slips.specs.Entries.{are_entries, entry_at, entries_of}
use Rattle.slips.proofs.Signs.{entries_signs, made_by}
use Rattle.slips.proofs.code.entries_of.Goals as goal

pub returns : goal.returns
unfolding entries_of
returns c =
    let m = c.args.row.members in
    let a = c.args.row.against in
    let is : c.from_fn.result ≡ entries_of m a = made_by _ (entry_at m a) _ 32 (λ i y q h k. search rules) c.from_fn.result c.from_fn.ensures.items in
    record { value = is; count = c.from_fn.ensures.items.long; signs = ap are_entries is ∙ entries_signs m a 0 32 }
