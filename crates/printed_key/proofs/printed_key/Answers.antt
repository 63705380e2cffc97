use Rattle.std.proofs.Common.{◌≡◌, string_bytes, codes, refl, ap, ◌∙◌, rules}
use Rattle.std.proofs.lemmas.Result.{IfOk-weaker}
use Rattle.std.specs.Fmt.{digits}
use Rattle.printed_key.specs.Key.{network_blocks}
use Rattle.printed_key.specs.Text.{spaced, line_text, text_of}
use Rattle.printed_key.proofs.Keying.{too_long, long_lines}
use Rattle.printed_key.proofs.printed_key.Goals as goal

too_long_text : text_of too_long ≡ codes "refused 25\n"
unfolding digits spaced line_text text_of
too_long_text = refl

pub returns-clause-too_long : goal.returns-clause-too_long
returns-clause-too_long c = λ h.
    IfOk-weaker c.text_by.result _ (λ t. string_bytes t ≡ codes "refused 25\n")
    (λ t e. e ∙ ap text_of (long_lines network_blocks _ h) ∙ too_long_text)
    (c.text_by.ensures network_blocks (λ before after d r e. search rules))
