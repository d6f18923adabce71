-- What a list of samples gives: the distances of neighbouring crossings, and the intervals in which they are written.
use Rattle.std.specs.Prelude.{ℕ, ◌-◌, ◌*◌, ◌/◌, ◌≤◌, ℤ, List, [], ◌∷◌, ◌++◌, replicate, Option, Some, None}
use Rattle.std.specs.List.{flat_map, last_or}
use Rattle.limits.specs.declared.recording.TheConstants.{MAX_INTERVAL}
use Rattle.pcm_front.specs.declared.start.Start.{Start}
use Rattle.pcm_front.specs.declared.start.Start.TheVariants.{Crossing, Tick}
use Rattle.pcm_front.specs.declared.threshold.Threshold.{Threshold}
use Rattle.pcm_front.specs.Crossing.{moments}
use Rattle.pcm_front.specs.Settings.{Settings}
use Rattle.pcm_front.specs.Sums.{sums}

-- the differences of neighbours, where x comes before the list
abbrev pub gaps_after : ℕ → List ℕ → List ℕ
gaps_after x [] = []
gaps_after x (y ∷ rest) = (y - x) ∷ gaps_after y rest

-- the differences of neighbours
abbrev pub gaps : List ℕ → List ℕ
gaps [] = []
gaps (x ∷ rest) = gaps_after x rest

-- the distances of neighbouring crossings, in ticks
abbrev pub distances : ℕ → Threshold → List ℤ → List ℕ
distances fineness threshold samples = gaps (moments fineness threshold samples)

-- the same, and before them the distance of the first crossing from tick 0
abbrev pub distances_from_start : ℕ → Threshold → List ℤ → List ℕ
distances_from_start fineness threshold samples = gaps_after 0 (moments fineness threshold samples)

-- the distances, where the first one begins there
abbrev pub distances_since : Start → ℕ → Threshold → List ℤ → List ℕ
distances_since Crossing fineness threshold samples = distances fineness threshold samples
distances_since Tick fineness threshold samples = distances_from_start fineness threshold samples

-- the moment from which the next distance runs
abbrev pub latest_moment : Start → List ℕ → Option ℕ
latest_moment Crossing moments = last_or None moments
latest_moment Tick moments = last_or (Some 0) moments

-- the distances that are sliced: those of the sums of the samples
abbrev pub distances_by : Settings → List ℤ → List ℕ
distances_by s samples = distances_since s.start s.fineness s.threshold (sums s.smooth samples)

-- the length of an interval
abbrev pub IsInterval : ℕ → Type 0
IsInterval length = (1 ≤ length) × (length ≤ MAX_INTERVAL)

-- how many whole pieces of a length a distance begins with
abbrev pub whole_pieces : ℕ → ℕ → ℕ
whole_pieces length distance = (distance - 1) / length

-- a distance in pieces of a length: whole ones, and one with the rest, which is from 1 to the length
abbrev pub pieces_in : ℕ → ℕ → List ℕ
pieces_in length distance =
    replicate (whole_pieces length distance) length ++ (distance - length * whole_pieces length distance) ∷ []

-- the intervals of a distance: greatest ones, and one with the rest
abbrev pub pieces_of : ℕ → List ℕ
pieces_of distance = pieces_in MAX_INTERVAL distance

-- the intervals of a list of samples
abbrev pub intervals : ℕ → Threshold → List ℤ → List ℕ
intervals fineness threshold samples = flat_map pieces_of (distances fineness threshold samples)

-- the intervals that are sliced
abbrev pub intervals_by : Settings → List ℤ → List ℕ
intervals_by settings samples = flat_map pieces_of (distances_by settings samples)
