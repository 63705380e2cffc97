use Rattle.std.proofs.Common.{◌≡◌, ℕ, ◌<◌, ◌++◌, Option, string_bytes}
use Rattle.sheet.specs.declared.refusal.Shown.{Shown}
use Rattle.sheet.specs.Refusals.{Answer, granted}
use Rattle.printed_key.specs.Blocks.{row_lines}
use Rattle.printed_key.specs.Text.{text_of, listed}
use Rattle.printed_key.proofs.network.push_rows.Given as goal

abbrev pub invariant-loop-k : goal.invariant-loop-k
invariant-loop-k g l =
    (rows : ℕ → Answer (Option Shown)) → ((k : ℕ) (r : _) → k < 32 → goal.F-post g l.row_at k r → granted r ≡ rows k) →
    string_bytes l.text ≡ string_bytes l.initial.text ++ text_of (listed (λ k. row_lines l.name k (rows k)) l.k)
