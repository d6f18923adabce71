use Rattle.std.proofs.Common.{◌<◌}
use Rattle.real_time.specs.Moment.{millisecond_at}
use Rattle.tc_address.specs.Numbering.{day_length, number_of}
use Rattle.label_lines.specs.Timebase.{count_of, rate_of}
use Rattle.label_lines.proofs.WrittenAndRead.{number_is_read, seconds_are_read_as, seven_digits, text_is_read}
use Rattle.label_lines.proofs.WrittenAndRead.{within_five_digits}
use Rattle.label_lines.proofs.laws.what_is_written_is_read.Goals as goal

pub returns-clause-text : goal.returns-clause-text
returns-clause-text c = λ base a is same.
    text_is_read base a (rw (← same) (c.a_text_is_read_as_its_label.ensures.read a is))

pub returns-clause-number : goal.returns-clause-number
returns-clause-number c = λ base a is same.
    number_is_read base a (number_of a)
    (seven_digits a.count (number_of a) (c.number_and_label_are_inverse.ensures.below a is))
    (rw (← same) (c.number_and_label_are_inverse.ensures.label a is))

pub returns-clause-seconds : goal.returns-clause-seconds
returns-clause-seconds c = λ base a is same.
    let below : number_of a < day_length (count_of base) =
    rw (← same) (c.number_and_label_are_inverse.ensures.below a is) in
    seconds_are_read_as base a (millisecond_at (rate_of base) (number_of a)) (number_of a)
    (within_five_digits base (number_of a) below)
    (c.a_frame_comes_back_from_its_millisecond.ensures.value (rate_of base) (number_of a))
    (rw (← same) (c.number_and_label_are_inverse.ensures.label a is))
