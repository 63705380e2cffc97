use Rattle.std.proofs.Common.{◌≡◌, ℕ, ◌&&◌, sym, refl, ap, ◌∙◌, rules}
use Rattle.std.proofs.lemmas.Bool.{and_parts}
use Rattle.graphs.specs.Graph.{◌∈◌}
use Rattle.topology.specs.Matrices.{entry}
use Rattle.topology.specs.Rows.{sign_of}
use Rattle.networks.specs.Words.{bits}
use Rattle.assembly.proofs.Members.{gathered_signed, left_out, no_sign}
use Rattle.assembly.proofs.gathering.gather_row.Goals as goal

pub returns : goal.returns
returns g c = λ R s x e signs terms.
    let row = c.args.row in
    let S = bits c.common-signed.result in
    let within : (k : ℕ) → k ∈ S → k ∈ R = λ k h. sym (ap (λ T. T k) e) ∙ (and_parts (bits c.args.members k) _ (sym (ap (λ T. T k) c.common-signed.ensures) ∙ h)).0 in
    c.gather.ensures S s x refl
    (λ k r l i called.
    let is : sign_of r ≡ entry row k = search rules in
    is ∙ signs k l (within k i))
    (λ k y l i called. terms k y l (within k i) called)
    ∙ gathered_signed g.N.Arithmetic.ops s x S R _ (λ k l i. within k i)
    (λ k l i out.
    let words = left_out (bits c.args.members k) (bits row.members k) (bits row.against k) (ap (λ T. T k) e ∙ i) (sym (ap (λ T. T k) c.common-signed.ensures ∙ ap (λ b. bits c.args.members k && b) (c.either.ensures k)) ∙ out) in
    sym (signs k l i) ∙ no_sign row k words.0 words.1)
