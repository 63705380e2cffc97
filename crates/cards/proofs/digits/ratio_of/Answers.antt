use Rattle.std.proofs.Common.{◌+◌, ◌-◌, eqb, length, take, drop, Some, None, ap, ◌∙◌, rules, tests}
use Rattle.std.proofs.lemmas.Iterator.{YieldsList-from_slice}
use Rattle.std.proofs.lemmas.Iterator.Search.{position_from_yields_List}
use Rattle.cards.specs.Numerals.{plain, over}
use Rattle.cards.proofs.Figures.{ratio_whole, ratio_parted}
use Rattle.cards.proofs.digits.ratio_of.Goals as goal

pub returns-in_err-digits-in-None : goal.returns-in_err-digits-in-None
returns-in_err-digits-in-None c =
    rw c.from_residual.ensures
    (ap (λ n. over n (Some 1)) c.in_err-digits-in-None.ensures
    ∙ ratio_whole c.args.text.now (position_from_yields_List (λ b. eqb b 47) _ _ None c.in-None.ensures.ran (YieldsList-from_slice c.args.text.now c.iter.ensures.rest) (λ x b q k. search (rules, tests))))

pub returns-in_ok-digits-in-None : goal.returns-in_ok-digits-in-None
returns-in_ok-digits-in-None c =
    ap (λ n. over n (Some 1)) c.in_ok-digits-in-None.ensures
    ∙ ratio_whole c.args.text.now (position_from_yields_List (λ b. eqb b 47) _ _ None c.in-None.ensures.ran (YieldsList-from_slice c.args.text.now c.iter.ensures.rest) (λ x b q k. search (rules, tests)))

pub returns-in_err-digits-in-Some : goal.returns-in_err-digits-in-Some
returns-in_err-digits-in-Some c =
    rw c.from_residual-in_err-digits-in-Some.ensures
    (ap (λ n. over n (plain 6 (take (length c.args.text.now - (c.in-Some.end + 1)) (drop (c.in-Some.end + 1) c.args.text.now)))) c.in_err-digits-in-Some.ensures
    ∙ ratio_parted c.args.text.now c.in-Some.end (position_from_yields_List (λ b. eqb b 47) _ _ (Some c.in-Some.end) c.in-Some.ensures.ran (YieldsList-from_slice c.args.text.now c.iter.ensures.rest) (λ x b q k. search (rules, tests))))

pub returns-in_err-digits-in-Some-2 : goal.returns-in_err-digits-in-Some-2
returns-in_err-digits-in-Some-2 c =
    rw c.from_residual-in_err-digits-in-Some-2.ensures
    ((λ i. over (c.in_ok-digits-in-Some.ensures i) (c.in_err-digits-in-Some-2.ensures i))
    ∙ ratio_parted c.args.text.now c.in-Some.end (position_from_yields_List (λ b. eqb b 47) _ _ (Some c.in-Some.end) c.in-Some.ensures.ran (YieldsList-from_slice c.args.text.now c.iter.ensures.rest) (λ x b q k. search (rules, tests))))

pub returns-in_ok-digits-in-Some-2 : goal.returns-in_ok-digits-in-Some-2
returns-in_ok-digits-in-Some-2 c =
    (λ i. over (c.in_ok-digits-in-Some.ensures i) (c.in_ok-digits-in-Some-2.ensures i))
    ∙ ratio_parted c.args.text.now c.in-Some.end (position_from_yields_List (λ b. eqb b 47) _ _ (Some c.in-Some.end) c.in-Some.ensures.ran (YieldsList-from_slice c.args.text.now c.iter.ensures.rest) (λ x b q k. search (rules, tests)))
