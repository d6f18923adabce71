-- Seconds and lines worked by hand: minutes and seconds at each rate, and of 24 frames a second that are pulled down,
-- of which each lasts 1001/24 ms.
use Rattle.std.proofs.Common.{◌≡◌, ℕ, List, refl}
use Rattle.std.specs.Fmt.{digits}
use Rattle.std.specs.Prelude.{codes}
use Rattle.real_time.specs.Moment.{frame_at, millisecond_at}
use Rattle.tc_address.specs.declared.count.Count.TheVariants.{C25}
use Rattle.label_lines.specs.declared.timebase.Timebase.{Timebase}
use Rattle.label_lines.specs.declared.timebase.Timebase.TheVariants.{F24, PulledDown24, F25, F30, PulledDown30, Drop30}
use Rattle.label_lines.specs.Answer.{seconds_text}
use Rattle.label_lines.specs.Forms.{fitting, fitting_one}
use Rattle.label_lines.specs.Line.{milliseconds_in, wrong_column}
use Rattle.label_lines.specs.Timebase.{rate_of}

-- the seconds of a frame of a day, as text
abbrev seconds_of_frame : Timebase → ℕ → List ℕ
seconds_of_frame base frame = seconds_text (millisecond_at (rate_of base) frame)

-- the frame that seconds in a text lie nearest to
abbrev frame_of_seconds : Timebase → List ℕ → ℕ
frame_of_seconds base text = frame_at (rate_of base) (milliseconds_in text)

-- ---- seconds that are written

frame_24 : seconds_of_frame F24 1 ≡ codes "0.042"
unfolding digits
frame_24 = refl

second_24 : seconds_of_frame F24 24 ≡ codes "1.000"
unfolding digits
second_24 = refl

frame_24_down : seconds_of_frame PulledDown24 1 ≡ codes "0.042"
unfolding digits
frame_24_down = refl

second_24_down : seconds_of_frame PulledDown24 24 ≡ codes "1.001"
unfolding digits
second_24_down = refl

minute_24_down : seconds_of_frame PulledDown24 1_440 ≡ codes "60.060"
unfolding digits
minute_24_down = refl

hour_24_down : seconds_of_frame PulledDown24 86_400 ≡ codes "3603.600"
unfolding digits
hour_24_down = refl

minute_25 : seconds_of_frame F25 1_500 ≡ codes "60.000"
unfolding digits
minute_25 = refl

-- 01:02:03:04 is frame 93,079
hour_and_more_25 : seconds_of_frame F25 93_079 ≡ codes "3723.160"
unfolding digits
hour_and_more_25 = refl

minute_30 : seconds_of_frame F30 1_800 ≡ codes "60.000"
unfolding digits
minute_30 = refl

minute_30_down : seconds_of_frame PulledDown30 1_800 ≡ codes "60.060"
unfolding digits
minute_30_down = refl

-- 00:10:00;00 is frame 17,982
ten_minutes_dropped : seconds_of_frame Drop30 17_982 ≡ codes "599.999"
unfolding digits
ten_minutes_dropped = refl

-- ---- seconds that are read

milliseconds : milliseconds_in (codes "3723.160") ≡ 3_723_160
milliseconds = refl

minute_from_24_down : frame_of_seconds PulledDown24 (codes "60.060") ≡ 1_440
minute_from_24_down = refl

-- a whole minute lies nearest to the beginning of the frame before
whole_minute_24_down : frame_of_seconds PulledDown24 (codes "60.000") ≡ 1_439
whole_minute_24_down = refl

minute_from_25 : frame_of_seconds F25 (codes "60.000") ≡ 1_500
minute_from_25 = refl

minute_from_dropped : frame_of_seconds Drop30 (codes "60.060") ≡ 1_800
minute_from_dropped = refl

-- ---- columns of minutes and seconds

minutes : wrong_column C25 (codes "10:60:00:00") ≡ 4
unfolding fitting fitting_one
minutes = refl

seconds : wrong_column C25 (codes "10:00:60:00") ≡ 7
unfolding fitting fitting_one
seconds = refl

minutes_first : wrong_column C25 (codes "10:61:61:00") ≡ 4
unfolding fitting fitting_one
minutes_first = refl
