-- When the frames of a rate begin, after midnight, and which frame of another rate is shown then. A fraction is kept as
-- its two numbers.
use Rattle.std.specs.Prelude.{ℕ, ◌+◌, ◌*◌, ◌/◌, ◌%◌, ◌≤◌, ◌<◌}
use Rattle.real_time.specs.declared.rate.FrameRate.{FrameRate}
use Rattle.real_time.specs.Rate.{frames_in, seconds_of}

-- a whole number lies nearest to a fraction, and above it where two lie equally near
abbrev pub IsNearest : ℕ → ℕ → ℕ → Type 0
IsNearest over under whole = (2 * whole * under ≤ 2 * over + under) × (2 * over + under < 2 * (whole + 1) * under)

-- a whole number is what is whole of a fraction
abbrev pub IsWholeOf : ℕ → ℕ → ℕ → Type 0
IsWholeOf over under whole = (whole * under ≤ over) × (over < (whole + 1) * under)

-- the millisecond that lies nearest to the beginning of a frame
abbrev pub IsMillisecondOf : FrameRate → ℕ → ℕ → Type 0
IsMillisecondOf rate frame millisecond = IsNearest (frame * seconds_of rate * 1000) (frames_in rate) millisecond

-- the frame whose beginning lies nearest to a millisecond
abbrev pub IsFrameOf : FrameRate → ℕ → ℕ → Type 0
IsFrameOf rate millisecond frame = IsNearest (millisecond * frames_in rate) (seconds_of rate * 1000) frame

-- a frame of the other rate is shown when the frame of a rate begins, and this many whole thousandths of it have passed
pub record IsShown (rate : FrameRate) (frame : ℕ) (other : FrameRate) (there thousandths : ℕ) : Type 0 where
  pub shown : IsWholeOf (frame * seconds_of rate * frames_in other) (seconds_of other * frames_in rate) there
  pub passed : IsWholeOf (frame * seconds_of rate * frames_in other * 1000) (seconds_of other * frames_in rate)
      (there * 1000 + thousandths)

-- ---- the same numbers as values

-- the whole number that lies nearest to a fraction
abbrev pub nearest : ℕ → ℕ → ℕ
nearest over under = (2 * over + under) / (2 * under)

-- the millisecond of a frame
abbrev pub millisecond_at : FrameRate → ℕ → ℕ
millisecond_at rate frame = nearest (frame * seconds_of rate * 1000) (frames_in rate)

-- the frame of a millisecond
abbrev pub frame_at : FrameRate → ℕ → ℕ
frame_at rate millisecond = nearest (millisecond * frames_in rate) (seconds_of rate * 1000)

-- the frame of the other rate that is shown
abbrev pub shown_at : FrameRate → ℕ → FrameRate → ℕ
shown_at rate frame other = frame * seconds_of rate * frames_in other / (seconds_of other * frames_in rate)

-- the thousandths of it that have passed
abbrev pub passed_at : FrameRate → ℕ → FrameRate → ℕ
passed_at rate frame other =
    frame * seconds_of rate * frames_in other % (seconds_of other * frames_in rate) * 1000
    / (seconds_of other * frames_in rate)
