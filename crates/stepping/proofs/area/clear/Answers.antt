use Rattle.std.proofs.Common.{◌≡◌, ℕ, length, replicate, rules, ap, ◌∙◌, arith}
use Rattle.stepping.proofs.Clearing.{all_filled}
use Rattle.stepping.proofs.area.clear.Goals as goal

pub returns : goal.returns
returns g c =
    let nil = g.N.Arithmetic.nil in
    let long : length c.args.area.now ≡ 304 = omega arith in
    all_filled _ nil (λ p y q called. search rules) _ _ _ c.fill_with.ensures.ran.1 ∙ ap (λ (n : ℕ). replicate n nil) (c.fill_with.ensures.len ∙ long)
