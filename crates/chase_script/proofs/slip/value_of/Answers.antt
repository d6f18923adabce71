use Rattle.std.proofs.Common.{arith}
use Rattle.chase_script.proofs.Digits.{a_digit_more, digit_at, short_value}
use Rattle.chase_script.proofs.slip.value_of.Goals as goal

pub overflow_mul-value : goal.overflow_mul-value
overflow_mul-value c =
    let few = short_value c.args.digits.now c.loop-digit.digit-index c.requires.all c.requires.few in
    omega (arith, c.loop-digit.invariant, few)

pub overflow_add-value : goal.overflow_add-value
overflow_add-value c =
    let few = short_value c.args.digits.now c.loop-digit.digit-index c.requires.all c.requires.few in
    let range = digit_at c.args.digits.now c.loop-digit.digit-index c.requires.all c.loop-digit-test.true in
    omega (arith, c.loop-digit.invariant, few, c.from.ensures, range.1)

-- the value with the next digit
pub loop-digit-preserved : goal.loop-digit-preserved
loop-digit-preserved c =
    let more = a_digit_more c.args.digits.now c.loop-digit.digit-index c.requires.all c.loop-digit-test.true in
    omega (arith, c.loop-digit.invariant, c.from.ensures, more)
