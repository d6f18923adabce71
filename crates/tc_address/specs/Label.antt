-- Frame addresses, and which of them are labels (SMPTE 12M, "time address" and "drop frame").
use Rattle.std.specs.Prelude.{◌≡◌, ℕ, ◌<◌, ◌≤◌, ◌%◌, Bool, true, false, not, ◌&&◌, ◌==◌, nat_le, nat_lt, List, map}
use Rattle.std.specs.List.{filter, flat_map, range_with_len}
use Rattle.tc_address.specs.declared.count.Count.{Count}
use Rattle.tc_address.specs.declared.count.Count.TheVariants.{Drop30}
use Rattle.tc_address.specs.declared.label.LabelFault.{LabelFault}
use Rattle.tc_address.specs.declared.label.LabelFault.TheVariants.{Hours, Minutes, Seconds, Frames, Dropped}
use Rattle.tc_address.specs.Count.{rate_of, system_with}

-- a frame address together with its count
pub record Address : Type 0 where
  pub count : Count
  pub hours : ℕ
  pub minutes : ℕ
  pub seconds : ℕ
  pub frames : ℕ

-- the address with these parts
abbrev pub address : Count → ℕ → ℕ → ℕ → ℕ → Address
address c h m s f = record { count = c; hours = h; minutes = m; seconds = s; frames = f }

-- the count drops an address with these parts: drop-frame drops frames 0 and 1 of second 0, in a minute that is no
-- multiple of ten, and the other counts drop none
abbrev pub is_dropped_by : Count → ℕ → ℕ → ℕ → Bool
is_dropped_by Drop30 minutes seconds frames = (seconds == 0) && nat_le frames 1 && not (minutes % 10 == 0)
is_dropped_by count minutes seconds frames = false

-- the count drops the address
abbrev pub is_dropped : Address → Bool
is_dropped a = is_dropped_by a.count a.minutes a.seconds a.frames

-- the address is one of the labels of its count
pub record IsLabel (a : Address) : Type 0 where
  pub hours : a.hours < 24
  pub minutes : a.minutes < 60
  pub seconds : a.seconds < 60
  pub frames : a.frames < rate_of (system_with a.count)
  pub counted : is_dropped a ≡ false

-- whether the address is one of the labels of its count
abbrev pub is_label : Address → Bool
is_label a =
    nat_lt a.hours 24 && nat_lt a.minutes 60 && nat_lt a.seconds 60 && nat_lt a.frames (rate_of (system_with a.count))
    && not (is_dropped a)

-- the fault is there, and none that is tested before it
abbrev pub IsFirstFault : LabelFault → Address → Type 0
IsFirstFault Hours a = 24 ≤ a.hours
IsFirstFault Minutes a = (a.hours < 24) × (60 ≤ a.minutes)
IsFirstFault Seconds a = (a.hours < 24) × (a.minutes < 60) × (60 ≤ a.seconds)
IsFirstFault Frames a =
    (a.hours < 24) × (a.minutes < 60) × (a.seconds < 60) × (rate_of (system_with a.count) ≤ a.frames)
IsFirstFault Dropped a = (a.hours < 24) × (a.minutes < 60) × (a.seconds < 60)
    × (a.frames < rate_of (system_with a.count)) × (is_dropped a ≡ true)

-- the addresses of a second, in ascending order
unfoldable pub second_of : Count → ℕ → ℕ → ℕ → List Address
second_of c h m s = map (λ f. address c h m s f) (range_with_len 0 (rate_of (system_with c)))

-- the addresses of a minute: those of its seconds, one after another
unfoldable pub minute_of : Count → ℕ → ℕ → List Address
minute_of c h m = flat_map (λ s. second_of c h m s) (range_with_len 0 60)

-- the addresses of an hour: those of its minutes
unfoldable pub hour_of : Count → ℕ → List Address
hour_of c h = flat_map (λ m. minute_of c h m) (range_with_len 0 60)

-- the addresses of a day: those of its hours
unfoldable pub addresses : Count → List Address
addresses c = flat_map (λ h. hour_of c h) (range_with_len 0 24)

-- the labels of a day, in ascending order: its addresses without those that the count drops
unfoldable pub labels : Count → List Address
labels c = filter (λ a. not (is_dropped a)) (addresses c)
