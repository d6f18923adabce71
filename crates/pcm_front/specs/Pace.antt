-- When the intervals of a distance are written: at the crossing that ends it, or as it passes, in pieces of a length.
-- The rule is this project's own.
use Rattle.std.specs.Prelude.{ℕ, ◌-◌, ◌*◌, ◌/◌, ◌<◌, ◌≤◌, ℤ, List, ◌++◌, length, replicate, Option, Some, None}
use Rattle.std.specs.List.{flat_map}
use Rattle.std.specs.Option.{option_to_list}
use Rattle.pcm_front.specs.declared.pace.Pace.{Pace}
use Rattle.pcm_front.specs.declared.pace.Pace.TheVariants.{Ended, Passing}
use Rattle.pcm_front.specs.declared.interval.Intervals.{Intervals}
use Rattle.pcm_front.specs.declared.start.Start.{Start}
use Rattle.pcm_front.specs.declared.threshold.Threshold.{Threshold}
use Rattle.pcm_front.specs.Crossing.{moments}
use Rattle.limits.specs.declared.recording.TheConstants.{MAX_INTERVAL}
use Rattle.pcm_front.specs.Distance.{distances_by, latest_moment, pieces_in, IsInterval}
use Rattle.pcm_front.specs.Settings.{Settings}
use Rattle.pcm_front.specs.Sums.{sums}

-- the length of a whole piece
abbrev pub longest : Pace → ℕ
longest Ended = MAX_INTERVAL
longest (Passing length) = length

-- it is that of an interval
abbrev pub IsPace : Pace → Type 0
IsPace pace = IsInterval (longest pace)

-- the ticks from a moment, where there is one, to a tick
abbrev pub ticks_since : Option ℕ → ℕ → ℕ
ticks_since None tick = 0
ticks_since (Some moment) tick = tick - moment

-- the ticks that have passed, at the tick of the latest sample, since the moment from which the next distance runs
abbrev pub passed_since : Start → ℕ → Threshold → List ℤ → ℕ
passed_since start fineness threshold samples =
    ticks_since (latest_moment start (moments fineness threshold samples)) (fineness * (length samples - 1))

-- the same of the sums of the samples, which are sliced
abbrev pub passed_by : Settings → List ℤ → ℕ
passed_by s samples = passed_since s.start s.fineness s.threshold (sums s.smooth samples)

-- from one sample to a later one: a distance that ends there is longer than the ticks that had passed, and else no
-- fewer have passed
abbrev pub Passes : ℕ → Option ℕ → ℕ → Type 0
Passes before None now = before ≤ now
Passes before (Some distance) now = before < distance

-- how many whole pieces stand of a distance that has not ended, where this many ticks of it have passed: each crossing
-- that is still to come lies behind all of these ticks, so that the distance has these pieces, and more
abbrev pub begun_in : Pace → ℕ → ℕ
begun_in Ended passed = 0
begun_in (Passing length) passed = passed / length

-- the ticks of a distance that has not ended, as far as they tell how many pieces stand
abbrev pub passed_as : Pace → ℕ → ℕ
passed_as Ended passed = 0
passed_as (Passing length) passed = passed

-- the whole pieces of a distance that have passed
abbrev pub begun : Pace → ℕ → List ℕ
begun pace passed = replicate (begun_in pace passed) (longest pace)

-- the intervals that stand after some samples: the pieces of their distances, and those of the distance that has not
-- ended
abbrev pub intervals_at : Pace → Settings → List ℤ → List ℕ
intervals_at pace s samples =
    flat_map (pieces_in (longest pace)) (distances_by s samples) ++ begun pace (passed_by s samples)

-- the intervals of some pieces: the whole ones that a distance still lacked and the rest of it, and those of the next
-- one
abbrev pub intervals_in : Intervals → List ℕ
intervals_in p = replicate p.whole p.length ++ (option_to_list p.rest ++ replicate p.begun p.length)
