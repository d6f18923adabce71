-- Moments of each rate, worked by hand. At 24 frames a second that are pulled down a frame lasts 1001/24 ms, which is
-- 41.708 ms; at 30 it lasts 1001/30 ms.
use Rattle.std.proofs.Common.{◌≡◌, refl}
use Rattle.real_time.specs.declared.rate.FrameRate.TheVariants.{R24, PulledDown24, R25, R30, PulledDown30}
use Rattle.real_time.specs.Moment.{frame_at, millisecond_at, passed_at, shown_at}

-- ---- a frame, a second and a minute of frames at each rate

frame_24 : millisecond_at R24 1 ≡ 42
frame_24 = refl

-- 41.708 ms
frame_24_down : millisecond_at PulledDown24 1 ≡ 42
frame_24_down = refl

-- twelve frames are 500.5 ms, and the later of two milliseconds that lie equally near
half_24_down : millisecond_at PulledDown24 12 ≡ 501
half_24_down = refl

second_24 : millisecond_at R24 24 ≡ 1_000
second_24 = refl

second_24_down : millisecond_at PulledDown24 24 ≡ 1_001
second_24_down = refl

minute_24_down : millisecond_at PulledDown24 1_440 ≡ 60_060
minute_24_down = refl

-- an hour of 86,400 frames lasts 3.6 s more
hour_24_down : millisecond_at PulledDown24 86_400 ≡ 3_603_600
hour_24_down = refl

minute_24 : millisecond_at R24 1_440 ≡ 60_000
minute_24 = refl

minute_25 : millisecond_at R25 1_500 ≡ 60_000
minute_25 = refl

minute_30 : millisecond_at R30 1_800 ≡ 60_000
minute_30 = refl

minute_30_down : millisecond_at PulledDown30 1_800 ≡ 60_060
minute_30_down = refl

-- the 1,800 frames of a first minute that drops none, and of ten minutes 17,982
ten_minutes_dropped : millisecond_at PulledDown30 17_982 ≡ 599_999
ten_minutes_dropped = refl

-- ---- back

from_a_second_24_down : frame_at PulledDown24 1_001 ≡ 24
from_a_second_24_down = refl

-- a second after midnight frame 24 lies a millisecond ahead
near_a_second_24_down : frame_at PulledDown24 1_000 ≡ 24
near_a_second_24_down = refl

-- 20 ms are less than half of a frame, and 21 ms are more
first_24_down : frame_at PulledDown24 20 ≡ 0
first_24_down = refl

second_of_24_down : frame_at PulledDown24 21 ≡ 1
second_of_24_down = refl

minute_from_24 : frame_at R24 60_000 ≡ 1_440
minute_from_24 = refl

-- ---- what is shown elsewhere: frame 24 of film that is pulled down begins with frame 30 of colour television

shown_30_down : shown_at PulledDown24 24 PulledDown30 ≡ 30
shown_30_down = refl

-- and frame 25 a quarter of a frame behind frame 31
shown_next : shown_at PulledDown24 25 PulledDown30 ≡ 31
shown_next = refl

passed_next : passed_at PulledDown24 25 PulledDown30 ≡ 250
passed_next = refl

-- 1.001 s are 25 frames of 25 a second and 25 thousandths
shown_25 : shown_at PulledDown24 24 R25 ≡ 25
shown_25 = refl

passed_25 : passed_at PulledDown24 24 R25 ≡ 25
passed_25 = refl
