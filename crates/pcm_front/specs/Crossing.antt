-- The crossings of the threshold and their moments in ticks, of which each sample has as many as the fineness says.
-- With one tick a sample, a moment is the place of a sample. The finer form is this project's own.
use Rattle.std.specs.Prelude.{ℕ, ◌+◌, ◌-◌, ◌*◌, Bool, cond, ℤ, pos, ◌-ℤ◌, int_le, unsigned_abs, List, length, map}
use Rattle.std.specs.Prelude.{Option, Some, None}
use Rattle.std.specs.List.{filter, range_with_len}
use Rattle.std.specs.Int.{div_ceil}
use Rattle.pcm_front.specs.declared.side.Side.{Side}
use Rattle.pcm_front.specs.declared.threshold.Threshold.{Threshold}
use Rattle.pcm_front.specs.Level.{threshold_at}
use Rattle.pcm_front.specs.Side.{sample_at, side_at, side_after, differs, upward}

-- the sample in a place is a crossing: its side differs from the side after the sample before it
abbrev pub is_crossing : Threshold → List ℤ → ℕ → Bool
is_crossing threshold samples place = differs (side_after threshold samples place) (side_at threshold samples place)

-- the places of all crossings
abbrev pub crossings : Threshold → List ℤ → List ℕ
crossings threshold samples = filter (is_crossing threshold samples) (range_with_len 0 (length samples))

-- how far a number lies from another
abbrev pub apart : ℤ → ℤ → ℕ
apart a b = unsigned_abs (a -ℤ b)

-- the tick, of those in the step from sample a up to sample b, in which a straight line between the two is first at
-- the threshold or above
abbrev pub tick_in_step : ℕ → ℕ → ℤ → ℤ → ℕ
tick_in_step fineness threshold a b =
    cond (int_le (pos threshold) a) 1 (div_ceil (fineness * apart (pos threshold) a) (apart b a))

-- the same of a step to a side
abbrev pub tick_to : Option Side → ℕ → ℕ → ℤ → ℤ → ℕ
tick_to None fineness threshold a b = 0
tick_to (Some side) fineness threshold a b = tick_in_step fineness threshold (upward side a) (upward side b)

-- the tick of a crossing in the step to its sample
abbrev pub tick_at : ℕ → Threshold → List ℤ → ℕ → ℕ
tick_at fineness threshold samples place =
    tick_to (side_at threshold samples place) fineness (threshold_at threshold samples place)
    (sample_at samples (place - 1)) (sample_at samples place)

-- the moment of a crossing: that of the sample before it, and the ticks from there on
abbrev pub moment : ℕ → Threshold → List ℤ → ℕ → ℕ
moment fineness threshold samples place = fineness * (place - 1) + tick_at fineness threshold samples place

-- the moments of all crossings
abbrev pub moments : ℕ → Threshold → List ℤ → List ℕ
moments fineness threshold samples = map (moment fineness threshold samples) (crossings threshold samples)
