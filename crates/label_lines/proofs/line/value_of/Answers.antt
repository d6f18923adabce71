use Rattle.std.proofs.Common.{◌≡◌, take, arith}
use Rattle.std.proofs.lemmas.List.{take_all}
use Rattle.label_lines.proofs.Digits.{a_digit_more, digit_at, short_value, value_below}
use Rattle.label_lines.proofs.line.value_of.Goals as goal

pub overflow_mul-value : goal.overflow_mul-value
overflow_mul-value c =
    let few = short_value c.args.digits.now c.loop-digit.digit-index c.requires.digits c.requires.few in
    omega (arith, c.loop-digit.invariant, few)

pub overflow_add-value : goal.overflow_add-value
overflow_add-value c =
    let few = short_value c.args.digits.now c.loop-digit.digit-index c.requires.digits c.requires.few in
    let range = digit_at c.args.digits.now c.loop-digit.digit-index c.requires.digits c.loop-digit-test.true in
    omega (arith, c.loop-digit.invariant, few, c.from.ensures, range.1)

-- the value with the next digit
pub loop-digit-preserved : goal.loop-digit-preserved
loop-digit-preserved c =
    let more = a_digit_more c.args.digits.now c.loop-digit.digit-index c.requires.digits c.loop-digit-test.true in
    omega (arith, c.loop-digit.invariant, c.from.ensures, more)

-- digits write less than the power of ten of their number
pub returns-clause-most : goal.returns-clause-most
returns-clause-most c =
    let below = value_below c.args.digits.now c.requires.digits in
    let all : take c.loop-digit.digit-index c.args.digits.now ≡ c.args.digits.now =
    take_all c.loop-digit.digit-index c.args.digits.now c.loop-digit-test.false in
    rw (c.loop-digit.invariant, all) below
