use Rattle.std.proofs.Common.{◌≡◌, true, false, sym, refl, ap, ◌∙◌, subst, w32, to_z, of_z, rules}
use lib.Ieee.{Float, binary64, of_bits, lt, mul, to_signed}
use Rattle.std.specs.Float.{round_with, float_with_sign}
use Rattle.sheet.specs.Refusals.{granted}
use Rattle.figures.specs.Readings.{thousand, thousandths, nearest_whole, reading_of, Reads, out_of_range}
use Rattle.figures.proofs.Rounding.{billion, reads_in, reads_out, reads_is}
use Rattle.figures.proofs.readings.reading_of.Goals as goal

thousand_is : of_bits binary64 4652007308841189376 ≡ thousand
unfolding of_bits
thousand_is = refl

billion_is : of_bits binary64 4741671816366391296 ≡ billion
unfolding of_bits
billion_is = refl

-- the code's rounded product, and its test
whole_is : (v w : Float) → w ≡ round_with nearest_whole nearest_whole binary64 (mul binary64 v (of_bits binary64 4652007308841189376)) → w ≡ round_with nearest_whole nearest_whole binary64 (thousandths v)
whole_is v w e = e ∙ ap (λ (x : Float). round_with nearest_whole nearest_whole binary64 (mul binary64 v x)) thousand_is

pub returns-then-abs : goal.returns-then-abs
returns-then-abs c =
    let v = c.args.voltage in
    let w = whole_is v c.nearest-whole.result c.nearest-whole.ensures in
    let z : to_z w32 (of_z w32 c.saturating_f64_to_i32.result) ≡ c.saturating_f64_to_i32.result = search rules in
    let test : lt (float_with_sign false (round_with nearest_whole nearest_whole binary64 (thousandths v))) billion ≡ true =
    ap (λ (x : Float). lt (float_with_sign false x) billion) (sym w)
    ∙ ap (λ (x : Float). lt x billion) (sym c.abs.ensures.value)
    ∙ ap (lt c.abs.result) (sym billion_is)
    ∙ c.if-abs.true
    in
    let answer : granted (to_z w32 (of_z w32 c.saturating_f64_to_i32.result)) ≡ reading_of (thousandths v) =
    ap granted (z ∙ c.saturating_f64_to_i32.ensures ∙ ap (to_signed 31) w) ∙ reads_in (thousandths v) test
    in
    record { answers = answer; nearest = subst (Reads (thousandths v)) (sym answer) (reads_is (thousandths v)) }

pub returns : goal.returns
returns c =
    let v = c.args.voltage in
    let w = whole_is v c.nearest-whole.result c.nearest-whole.ensures in
    let test : lt (float_with_sign false (round_with nearest_whole nearest_whole binary64 (thousandths v))) billion ≡ false =
    ap (λ (x : Float). lt (float_with_sign false x) billion) (sym w)
    ∙ ap (λ (x : Float). lt x billion) (sym c.abs.ensures.value)
    ∙ ap (lt c.abs.result) (sym billion_is)
    ∙ c.if-abs.false
    in
    let answer : out_of_range ≡ reading_of (thousandths v) = reads_out (thousandths v) test in
    record { answers = answer; nearest = subst (Reads (thousandths v)) (sym answer) (reads_is (thousandths v)) }
