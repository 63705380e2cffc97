use Rattle.std.proofs.Common.{◌∷◌, ◌++◌, codes, decimal, sym, ap, ◌∙◌}
use Rattle.std.proofs.Output.{has_written_of_eq}
use Rattle.sheet.specs.Refusals.{means}
use Rattle.printed_key.specs.Blocks.{shown_words, stop_words}
use Rattle.printed_key.specs.Text.{spaced}
use Rattle.printed_key.proofs.Adding.{one_word, five_words}
use Rattle.printed_key.proofs.stop.StopDisplay.fmt.Goals as goal

pub returns-in-Some-clause-writes : goal.returns-in-Some-clause-writes
unfolding spaced
returns-in-Some-clause-writes g c = λ p ok.
    has_written_of_eq _ _ _ _ _
    (ap (λ ws. codes "refused" ++ spaced ws)
    (ap (λ ws. decimal (means c.in-Refused.refusal).number ∷ shown_words ws) c.in-Some.ensures ∙ ap stop_words (sym c.in-Refused.is)))
    (c.write.ensures.writes p ok)

pub returns-in-None-clause-writes : goal.returns-in-None-clause-writes
returns-in-None-clause-writes g c = λ p ok.
    let number = decimal (means c.in-Refused.refusal).number in
    has_written_of_eq _ _ _ _ _
    (ap (λ bs. codes "refused" ++ bs) (one_word number)
    ∙ ap (λ ws. codes "refused" ++ spaced ws) (ap (λ ws. number ∷ shown_words ws) c.in-None.ensures ∙ ap stop_words (sym c.in-Refused.is)))
    (c.write-in-None.ensures.writes p ok)

pub returns-in-Faulty-clause-writes : goal.returns-in-Faulty-clause-writes
returns-in-Faulty-clause-writes g c = λ p ok.
    has_written_of_eq _ _ _ _ _
    (ap (λ bs. codes "refused" ++ bs)
    (five_words (decimal (means c.in-Faulty.fault.refusal).number) (codes "line") (decimal c.in-Faulty.fault.line) (codes "byte") (decimal c.in-Faulty.fault.byte))
    ∙ ap (λ s. codes "refused" ++ spaced (stop_words s)) (sym c.in-Faulty.is))
    (c.write-in-Faulty.ensures.writes p ok)
