-- What is answered to a label, byte for byte. The forms are this project's own.
use Rattle.std.specs.Prelude.{ℕ, ◌+◌, ◌/◌, ◌%◌, List, ◌∷◌, ◌++◌, codes, decimal, pos, neg_ℤ}
use Rattle.std.specs.Fmt.{signed_decimal}
use Rattle.real_time.specs.Moment.{millisecond_at, passed_at, shown_at}
use Rattle.real_time.specs.declared.rate.FrameRate.{FrameRate}
use Rattle.tc_address.specs.declared.count.Count.{Count}
use Rattle.tc_address.specs.Circle.{ahead, shortest_way}
use Rattle.tc_address.specs.Label.{Address, address}
use Rattle.tc_address.specs.Numbering.{day_length, number_of, step}
use Rattle.tc_address.specs.Spelling.{text_of, two_digits}
use Rattle.label_lines.specs.declared.timebase.Timebase.{Timebase}
use Rattle.label_lines.specs.declared.way.Way.{Way}
use Rattle.label_lines.specs.declared.way.Way.TheVariants as ways
use Rattle.label_lines.specs.Timebase.{count_of, rate_of}

-- the shortest way from a label to another, with its sign, and how far that one lies ahead
abbrev pub since_text : Address → Address → List ℕ
since_text from to =
    signed_decimal (shortest_way (day_length to.count) (number_of from) (number_of to)) ++ codes " "
    ++ decimal (ahead (day_length to.count) (number_of from) (number_of to))

-- milliseconds, as seconds with three decimals
abbrev pub seconds_text : ℕ → List ℕ
seconds_text milliseconds =
    decimal (milliseconds / 1000) ++ codes "." ++ (48 + milliseconds % 1000 / 100) ∷ two_digits (milliseconds % 100)

-- the label this many frames after midnight, around the day
abbrev pub label_from_midnight : Count → ℕ → Address
label_from_midnight count frames = step (address count 0 0 0 0) (pos frames)

-- the label that is shown when a frame begins, and the thousandths of its frame that have passed
abbrev pub shown_text : FrameRate → ℕ → Timebase → List ℕ
shown_text rate frame other =
    text_of (label_from_midnight (count_of other) (shown_at rate frame (rate_of other))) ++ codes " "
    ++ decimal (passed_at rate frame (rate_of other))

-- a length: the label that lies so many frames after midnight, and the frames
abbrev pub length_text : Count → ℕ → List ℕ
length_text count frames = text_of (label_from_midnight count frames) ++ codes " " ++ decimal frames

-- what is answered
abbrev pub answer : Timebase → Way → Address → List ℕ
answer base ways.Number a = decimal (number_of a)
answer base ways.Label a = text_of a
answer base (ways.Plus steps) a = text_of (step a (pos steps))
answer base (ways.Minus steps) a = text_of (step a (neg_ℤ (pos steps)))
answer base (ways.Since other) a = since_text other a
answer base (ways.Length other) a =
    length_text a.count (ahead (day_length a.count) (number_of other) (number_of a))
answer base ways.Seconds a = seconds_text (millisecond_at (rate_of base) (number_of a))
answer base (ways.To other) a = shown_text (rate_of base) (number_of a) other

-- and its line
abbrev pub answer_line : Timebase → Way → Address → List ℕ
answer_line base way a = answer base way a ++ codes "\n"
