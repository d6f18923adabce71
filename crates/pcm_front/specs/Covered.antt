-- What the intervals of samples say of their crossings: which these are, and how many ticks the intervals cover.
use Rattle.std.specs.Prelude.{◌≡◌, ◌<◌, ◌≤◌, ℕ, ◌+◌, ◌-◌, ℤ, neg_ℤ, List, [], ◌∷◌, map, sum}
use Rattle.std.specs.List.{AllByRecursion}
use Rattle.pcm_front.specs.declared.pace.Pace.{Pace}
use Rattle.pcm_front.specs.declared.pace.Pace.TheVariants.{Ended, Passing}
use Rattle.pcm_front.specs.declared.start.Start.{Start}
use Rattle.pcm_front.specs.declared.start.Start.TheVariants.{Crossing, Tick}
use Rattle.pcm_front.specs.Crossing.{crossings, moments}
use Rattle.pcm_front.specs.Neighbours.{Crosses, TurnByTurn}
use Rattle.pcm_front.specs.Pace.{intervals_at, passed_by}
use Rattle.pcm_front.specs.Settings.{Settings}
use Rattle.pcm_front.specs.Sums.{sums}

-- the last of some moments
abbrev pub last_of : ℕ → List ℕ → ℕ
last_of first [] = first
last_of first (next ∷ more) = last_of next more

-- the ticks from the first of some moments, or from tick 0, to the last one
abbrev pub covered : Start → List ℕ → ℕ
covered Crossing [] = 0
covered Crossing (first ∷ more) = last_of first more - first
covered Tick moments = last_of 0 moments

-- the crossings that are sliced, and their moments: those of the sums of the samples
abbrev pub crossings_by : Settings → List ℤ → List ℕ
crossings_by s samples = crossings s.threshold (sums s.smooth samples)

-- the moments of these crossings, in ticks
abbrev pub moments_by : Settings → List ℤ → List ℕ
moments_by s samples = moments s.fineness s.threshold (sums s.smooth samples)

-- each crossing leads from one side to the other, each beyond the threshold of its own sample, and neighbours lie on
-- opposite sides, with none between them. The intervals add up to the ticks from the first moment, or from tick 0, to
-- the last one; and if pieces pass, they fall short of these and of what has passed behind them, at the latest
-- sample, by less than a piece. Sound that is turned over, each sample into its negative, has the same intervals
pub record TellTheCrossings (pace : Pace) (s : Settings) (samples : List ℤ) : Type 0 where
  pub cross : AllByRecursion (Crosses s.threshold (sums s.smooth samples)) (crossings_by s samples)
  pub turn : TurnByTurn s.threshold (sums s.smooth samples) (crossings_by s samples)
  pub ended : pace ≡ Ended → sum (intervals_at pace s samples) ≡ covered s.start (moments_by s samples)
  pub passing : (length : ℕ) → pace ≡ Passing length
      → let ticks = covered s.start (moments_by s samples) in let passed = passed_by s samples in
      (ticks ≤ sum (intervals_at pace s samples)) × (sum (intervals_at pace s samples) ≤ ticks + passed)
      × (ticks + passed < sum (intervals_at pace s samples) + length)
  pub polarity : intervals_at pace s (map neg_ℤ samples) ≡ intervals_at pace s samples
