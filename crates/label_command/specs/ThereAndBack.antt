-- When labels of two counts begin, in real time. This project's own.
use Rattle.std.specs.Prelude.{◌≡◌, ℕ, ◌*◌, ◌<◌, ◌≤◌}
use Rattle.label_lines.specs.declared.timebase.Timebase.{Timebase}
use Rattle.label_lines.specs.Timebase.{count_of, rate_of}
use Rattle.real_time.specs.Rate.{frames_in, seconds_of}
use Rattle.tc_address.specs.Label.{Address, IsLabel}

-- it is a label of the count of a timebase
pub record IsLabelOf (base : Timebase) (label : Address) : Type 0 where
  pub label_is : IsLabel label
  pub counted : label.count ≡ count_of base

-- the frames of the other one run as fast, or faster
abbrev pub IsAsFast : Timebase → Timebase → Type 0
IsAsFast base other =
    frames_in (rate_of base) * seconds_of (rate_of other) ≤ frames_in (rate_of other) * seconds_of (rate_of base)

-- so many frames of the other one begin before so many frames of the one, after midnight
abbrev pub BeginBefore : Timebase → ℕ → Timebase → ℕ → Type 0
BeginBefore other there base frames =
    there * seconds_of (rate_of other) * frames_in (rate_of base)
    < frames * seconds_of (rate_of base) * frames_in (rate_of other)

-- and at the same moment
abbrev pub BeginTogether : Timebase → ℕ → Timebase → ℕ → Type 0
BeginTogether other there base frames =
    frames * seconds_of (rate_of base) * frames_in (rate_of other)
    ≡ there * seconds_of (rate_of other) * frames_in (rate_of base)
