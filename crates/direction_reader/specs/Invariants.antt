-- What the code keeps; no promise speaks of it.
use Rattle.std.specs.Prelude.{◌≡◌, ℕ, ◌+◌, ◌-◌, ◌*◌, ◌<◌, ◌≤◌, List, [], ◌∷◌, drop, IfSome}
use Rattle.limits.specs.declared.recording.TheConstants.{MAX_INTERVAL}
use Rattle.direction_reader.specs.declared.latest_bits.LatestBits.{LatestBits}
use Rattle.direction_reader.specs.declared.latest_bits.LatestBits.TheVariants as latest
use Rattle.direction_reader.specs.Tracking.{Tracking}
use Rattle.direction_reader.specs.Tracking.{AtCell, MidCell, Hunting}
use Rattle.direction_reader.specs.Brings.{greatest_cell}
use Rattle.direction_reader.specs.LatestCells.{Cells}

-- how many cells the latest bits have
abbrev pub cell_count : LatestBits → ℕ
cell_count (latest.Full _) = 80
cell_count (latest.Filling f) = f.count

-- of a ring of 81 ticks, those at the boundaries of the cells that it has
abbrev pub latest_ticks : LatestBits → List ℕ → List ℕ
latest_ticks bits ticks = drop (80 - cell_count bits) ticks

-- boundaries of cells, the last of them at a tick
abbrev pub AreBoundariesTo : ℕ → List ℕ → Type 0
AreBoundariesTo tick [] = ⊥
AreBoundariesTo tick (last ∷ []) = last ≡ tick
AreBoundariesTo tick (boundary ∷ next ∷ rest) =
    (boundary < next) × (next ≤ boundary + greatest_cell) × AreBoundariesTo tick (next ∷ rest)

-- the state of the tracker, the sum of the intervals and the boundaries of the stretch fit each other
abbrev pub FitsTracker : Tracking → ℕ → List ℕ → Type 0
FitsTracker (AtCell a) tick boundaries = AreBoundariesTo tick boundaries
FitsTracker (MidCell m) tick boundaries =
    (1 ≤ m.half) × (m.half ≤ MAX_INTERVAL) × (m.half ≤ tick) × AreBoundariesTo (tick - m.half) boundaries
FitsTracker (Hunting h) tick boundaries = IfSome h.before (λ z. (1 ≤ z) × (z ≤ MAX_INTERVAL) × (z ≤ tick))

-- what a reader keeps fits what it counts
pub record IsReading (intervals tick : ℕ) (tracker : Tracking) (cells : Cells) : Type 0 where
  pub count : intervals ≤ 1000000000
  pub sum : tick ≤ intervals * MAX_INTERVAL
  pub fits : FitsTracker tracker tick cells.boundaries
