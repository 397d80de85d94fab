use Rattle.std.proofs.Common.{◌≡◌, ◌<◌, ◌≤◌, ◌+◌, ◌*◌, ◌^◌, nat_lt, false, arith, take, length, refl, get_or}
use Rattle.std.proofs.lemmas.{Bool.Decides.nat_tests, Int.Digits.digits_value_more, Str.Parse.digits_value-take-le}
use Rattle.std.specs.{Char.digit_value, Str.Parse.digits_value}
use Rattle.qm_base.proofs.numerals.value.Goals as goal

pub returns-in-None : goal.returns-in-None
returns-in-None c =
    let ds = c.args.digits.now in
    let i = c.loop-digit.digit-index in
    let within : i < length ds = omega arith in
    let more : digits_value 10 (take (i + 1) ds) ≡ digits_value 10 (take i ds) * 10 + digit_value (get_or ds i 0) = digits_value_more 10 ds i within in
    let below : digits_value 10 (take (i + 1) ds) ≤ digits_value 10 ds = digits_value-take-le 10 ds (i + 1) (omega arith) in
    let high : 2 ^ 64 ≤ digits_value 10 ds = omega (arith, c.in-None.ensures.full, c.loop-digit.invariant.0) in
    let no : nat_lt (digits_value 10 ds) (2 ^ 64) ≡ false = grind (arith, nat_tests) in
    rw no refl

pub loop-digit-preserved : goal.loop-digit-preserved
loop-digit-preserved c =
    let ds = c.args.digits.now in
    let i = c.loop-digit.digit-index in
    let within : i < length ds = omega arith in
    let more : digits_value 10 (take (i + 1) ds) ≡ digits_value 10 (take i ds) * 10 + digit_value (get_or ds i 0) = digits_value_more 10 ds i within in
    (omega (arith, c.in-Some.ensures.grown.0, c.loop-digit.invariant.0), c.in-Some.ensures.grown.1)
