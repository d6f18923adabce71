-- The intervals of the best path of a sound. Lists of samples, of steps and of cells begin with the latest, lists of
-- intervals with the first.
use Rattle.std.specs.Prelude.{◌≡◌, ℕ, ◌+◌, ◌*◌, ◌^◌, ◌≤◌, ℤ, List, [], ◌∷◌, ◌++◌, length, reverse, take, drop, Option}
use Rattle.std.specs.Prelude.{Some, None}
use Rattle.std.specs.List.{flat_map, All}
use Rattle.cell_path.specs.declared.placed.Placed.{Placed}
use Rattle.cell_path.specs.Decided.{AreDecided, AreDecidedInAll}
use Rattle.path_front.specs.declared.gate.Ear.{Ear}
use Rattle.path_front.specs.declared.gate.Judged.{Judged}
use Rattle.path_front.specs.declared.gate.TheConstants.{NEIGHBOURS}
use Rattle.step_grid.specs.declared.grid.Grid.{Grid}
use Rattle.path_front.specs.declared.judging.Phase.TheVariants.{Sound, Drain}
use Rattle.path_front.specs.declared.measured.Measured.{Measured}
use Rattle.path_front.specs.Cells.{measured_cells, IsIdle, SameSound}
use Rattle.path_front.specs.Gate.{breaks, ear_of}
use Rattle.path_front.specs.Judging.{judging_left, ForMore, IsSettled, JudgingState, JudgingStandFor}
use Rattle.path_front.specs.Steps.{path_steps, sounds_of}
use Rattle.path_front.specs.Tiles.{tiles_of, IsSaid}

-- cells with whether the stretch breaks in front of each, the first one first, where these cells come behind them
unfoldable pub judgements : Ear → List Measured → List Measured → List Judged
judgements ear [] behind = []
judgements ear (cell ∷ before) behind =
    judgements ear before (cell ∷ behind)
    ++ record { cell = cell; breaks = breaks ear before cell behind } ∷ []

-- the intervals of cells, where these come behind them
abbrev pub intervals_before : ℕ → Ear → List Measured → List Measured → List ℕ
intervals_before ticks ear cells behind = flat_map (tiles_of ticks) (judgements ear cells behind)

-- the intervals of the best path of a sound: of all cells that are decided by its end
pub record AreIntervals (grid : Grid) (ticks least : ℕ) (samples : List ℤ) (intervals : List ℕ) : Type 0 where
  pub cells : List Placed
  pub decided : AreDecidedInAll (path_steps (sounds_of grid least samples)) cells
  pub intervals_are : intervals
      ≡ intervals_before ticks (ear_of grid least) (measured_cells (sounds_of grid least samples) cells) []

-- the intervals of cells but for the latest eight, which wait for others behind them
abbrev pub intervals_of_judged : ℕ → Ear → List Measured → List ℕ
intervals_of_judged ticks ear cells =
    intervals_before ticks ear (drop NEIGHBOURS cells) (reverse (take NEIGHBOURS cells))

-- the intervals that samples bring while others may follow: of the cells that are decided so far those are judged
-- behind which eight others stand
pub record AreIntervalsSoFar (grid : Grid) (ticks least : ℕ) (samples : List ℤ) (intervals : List ℕ) : Type 0 where
  pub cells : List Placed
  pub decided : AreDecided (path_steps (sounds_of grid least samples)) cells
  pub intervals_are : intervals
      ≡ intervals_of_judged ticks (ear_of grid least) (measured_cells (sounds_of grid least samples) cells)

-- the cells on their way through the gate, the ticks of a step, and the intervals that wait
pub record FrontState : Type 0 where
  pub judging : JudgingState
  pub ticks : ℕ
  pub tiles : List ℕ

-- a step has from 2 to 65,536 ticks, and each interval that waits can be said
pub record IsFront (state : FrontState) : Type 0 where
  pub least : 2 ≤ state.ticks
  pub most : state.ticks ≤ 2 ^ 16
  pub said : All IsSaid state.tiles

-- the intervals that were given, and those of the latest cell that are left, are those of the cells that were judged
pub record FrontStandsFor (state : FrontState) (samples : List ℤ) (given : List ℕ) : Type 0 where
  pub judged : List Measured
  pub judging : JudgingStandFor state.judging samples judged
  pub out : ForMore state.judging.phase (λ more. given ++ state.tiles
      ≡ intervals_before state.ticks state.judging.gate.ear judged (state.judging.gate.ahead ++ more))

-- nothing is left until more samples come, or at all
abbrev pub IsFrontSettled : FrontState → Type 0
IsFrontSettled state = IsSettled state.judging.phase state.judging × (state.tiles ≡ [])

-- the next sample may come
pub record IsReady (state : FrontState) : Type 0 where
  pub phase : state.judging.phase ≡ Sound
  pub idle : IsIdle state.judging.cells
  pub tiles : state.tiles ≡ []

-- at the end all intervals of the sound have been given
abbrev pub IsAllGiven : FrontState → List ℤ → List ℕ → Type 0
IsAllGiven state samples given = (state.judging.phase ≡ Drain) → AreIntervals state.judging.cells.steps.grid state.ticks
    state.judging.cells.steps.hold.least samples given

-- while samples may come those have been given that they bring so far
abbrev pub IsGivenSoFar : FrontState → List ℤ → List ℕ → Type 0
IsGivenSoFar state samples given = (state.judging.phase ≡ Sound) → AreIntervalsSoFar state.judging.cells.steps.grid
    state.ticks state.judging.cells.steps.hold.least samples given

-- the next interval is given, or none is left until more samples come
abbrev pub GivesInterval : FrontState → List ℤ → List ℕ → Option ℕ → Type 0
GivesInterval new samples given None =
    FrontStandsFor new samples given × IsAllGiven new samples given × IsGivenSoFar new samples given
GivesInterval new samples given (Some interval) = FrontStandsFor new samples (given ++ interval ∷ [])

-- a bound of the intervals that are left
abbrev pub intervals_left : FrontState → ℕ
intervals_left state = 4 * judging_left state.judging + length state.tiles

-- the sound and its phase go on
pub record GoesOn (old new : FrontState) : Type 0 where
  pub same : SameSound old.judging.cells new.judging.cells
  pub ticks : new.ticks ≡ old.ticks
  pub sound : old.judging.phase ≡ Sound → new.judging.phase ≡ Sound
  pub ended : new.judging.phase ≡ Sound → old.judging.phase ≡ Sound
