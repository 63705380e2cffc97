use Rattle.std.proofs.Common.{◌&&◌, rules, tests, refl, ◌∙◌}
use Rattle.std.specs.List.{list_all}
use Rattle.std.proofs.lemmas.Iterator.{YieldsList-from_slice}
use Rattle.std.proofs.lemmas.Iterator.Search.{all_from_yields_List}
use Rattle.std.proofs.lemmas.List.Recursion.{same_from_clauses}
use Rattle.slips.specs.Entries.{is_entry, are_entries}
use Rattle.slips.proofs.rows.are_entries.Goals as goal

pub returns : goal.returns
unfolding are_entries
returns c =
    all_from_yields_List is_entry _ _ _ c.all.ensures.ran (YieldsList-from_slice c.args.entries.now cc) (λ x b q k. search (rules, tests))
    ∙ same_from_clauses (list_all is_entry) are_entries (λ e b. is_entry e && b) refl (λ _ _. refl) (λ _ _. refl) c.args.entries.now
