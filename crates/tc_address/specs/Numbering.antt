-- The numbers of the labels: how many labels come before one in the list of its day.
use Rattle.std.specs.Prelude.{ℕ, Bool, ◌&&◌, ◌==◌, ℤ, length, slice_get}
use Rattle.std.specs.List.{position_or_len}
use Rattle.std.specs.Option.{unwrap_or}
use Rattle.tc_address.specs.declared.count.Count.{Count}
use Rattle.tc_address.specs.declared.count.Count.TheVariants.{C24, C25, C30, Drop30}
use Rattle.tc_address.specs.Label.{Address, labels}
use Rattle.tc_address.specs.Circle.{moved}

-- how many labels a day has, as a number
abbrev pub day_length : Count → ℕ
day_length C24 = 2_073_600
day_length C25 = 2_160_000
day_length C30 = 2_592_000
day_length Drop30 = 2_589_408

-- the same hours, minutes, seconds and frames
abbrev pub is_same_time : Address → Address → Bool
is_same_time a b =
    (a.hours == b.hours) && (a.minutes == b.minutes) && (a.seconds == b.seconds) && (a.frames == b.frames)

-- how many labels stand before it in the list of its day
unfoldable pub number_of : Address → ℕ
number_of a = position_or_len (λ other. is_same_time other a) (labels a.count)

-- the label that is this many places further in the list of the day, which begins again at its end
unfoldable pub step : Address → ℤ → Address
step a steps = unwrap_or (slice_get (labels a.count) (moved (length (labels a.count)) (number_of a) steps)) a
