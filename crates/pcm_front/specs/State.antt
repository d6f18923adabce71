-- What is kept of the samples so far, in finding crossings and in summing them.
use Rattle.std.specs.Prelude.{◌≡◌, ℕ, ◌+◌, ◌-◌, ◌≤◌, cond, ℤ, pos, List, [], ◌∷◌, ◌++◌, length, take, drop, replicate}
use Rattle.std.specs.Prelude.{Option, Some, None, IfSome}
use Rattle.std.specs.List.{AllByRecursion}
use Rattle.std.specs.Option.{option_or}
use Rattle.pcm_front.specs.declared.level.Level.{Level}
use Rattle.pcm_front.specs.declared.side.Side.{Side}
use Rattle.pcm_front.specs.declared.start.Start.{Start}
use Rattle.pcm_front.specs.declared.start.Start.TheVariants.{Crossing, Tick}
use Rattle.pcm_front.specs.declared.threshold.TheConstants.{MAX_THRESHOLD}
use Rattle.pcm_front.specs.declared.threshold.Threshold.{Threshold}
use Rattle.pcm_front.specs.declared.threshold.Threshold.TheVariants.{Fixed, Follow, Deep}
use Rattle.pcm_front.specs.Level.{silent, next_level, threshold_by, HasSixteenBits, IsInRange, IsSum}
use Rattle.pcm_front.specs.Side.{side_of, differs}
use Rattle.pcm_front.specs.Sums.{total}
use Rattle.pcm_front.specs.Crossing.{tick_to}

-- its fineness and threshold, and where the first distance begins; the ticks of the samples so far, the last of them,
-- their level where the threshold follows it, and the side after them; and the moment of the last crossing, a sample
-- late
pub record FinderState : Type 0 where
  pub fineness : ℕ
  pub threshold : Threshold
  pub start : Start
  pub tick : ℕ
  pub before : ℤ
  pub level : Level
  pub side : Option Side
  pub latest : Option ℕ

-- what finding crossings keeps, by its parts
abbrev pub state_of : ℕ → Threshold → Start → ℕ → ℤ → Level → Option Side → Option ℕ → FinderState
state_of fineness threshold start tick before level side latest = record {
  fineness = fineness;
  threshold = threshold;
  start = start;
  tick = tick;
  before = before;
  level = level;
  side = side;
  latest = latest;
}

-- where the first distance begins, a sample late
abbrev pub late_start : Start → ℕ → Option ℕ
late_start Crossing fineness = None
late_start Tick fineness = Some fineness

-- what is kept of no sample
abbrev pub fresh : ℕ → Threshold → Start → FinderState
fresh fineness threshold start = state_of fineness threshold start 0 (pos 0) silent None (late_start start fineness)

-- the numbers that a threshold may be: up to the sum of 16 that are 32,767
abbrev pub IsThreshold : Threshold → Type 0
IsThreshold (Fixed threshold) = (1 ≤ threshold) × (threshold ≤ MAX_THRESHOLD)
IsThreshold (Follow least) = (1 ≤ least) × (least ≤ MAX_THRESHOLD)
IsThreshold (Deep least) = (1 ≤ least) × (least ≤ MAX_THRESHOLD)

-- what is kept is in its range
pub record IsKept (state : FinderState) : Type 0 where
  pub least : 1 ≤ state.fineness
  pub most : state.fineness ≤ 64
  pub threshold : IsThreshold state.threshold
  pub before : IsSum state.before
  pub level : IsInRange state.level
  pub latest : IfSome state.latest (λ moment. moment ≤ state.tick + state.fineness)
  pub behind : IfSome state.side (λ side. IfSome state.latest (λ moment. moment ≤ state.tick))

-- of how many samples sums are made, and the latest samples, one fewer than that
pub record WindowState : Type 0 where
  pub smooth : ℕ
  pub kept : List ℤ

-- the samples in a ring that is one shorter than a sum, the oldest in this place
abbrev pub ring_of : ℕ → List ℤ → ℕ → List ℤ
ring_of smooth ring oldest = drop oldest (take (smooth - 1) ring) ++ take oldest ring

-- what summing samples keeps: the latest samples, from a ring
abbrev pub window_of : ℕ → List ℤ → ℕ → WindowState
window_of smooth ring oldest = record { smooth = smooth; kept = ring_of smooth ring oldest }

-- what is kept of no sample: 0 stands before the first
abbrev pub fresh_window : ℕ → WindowState
fresh_window smooth = record { smooth = smooth; kept = replicate (smooth - 1) (pos 0) }

-- the window after a sample: the oldest of those kept goes
abbrev pub window_after : WindowState → ℤ → WindowState
window_after window sample = record { smooth = window.smooth; kept = drop 1 (window.kept ++ sample ∷ []) }

-- each sample stands for itself, and none is kept
abbrev pub IsAlone : WindowState → Type 0
IsAlone window = (window.smooth ≡ 1) × (window.kept ≡ [])

-- what a window keeps is in its range
pub record IsWindow (window : WindowState) : Type 0 where
  pub least : 1 ≤ window.smooth
  pub most : window.smooth ≤ 16
  pub long : length window.kept + 1 ≡ window.smooth
  pub bits : AllByRecursion HasSixteenBits window.kept

-- the same of a ring, with the sum of what it keeps
pub record IsRing (smooth : ℕ) (ring : List ℤ) (oldest : ℕ) (sum : ℤ) : Type 0 where
  pub window : IsWindow (window_of smooth ring oldest)
  pub sum_is : sum ≡ total (ring_of smooth ring oldest)
  pub alone : smooth ≡ 1 → oldest ≡ 0
  pub place : 2 ≤ smooth → oldest + 2 ≤ smooth

-- The steps of finding crossings. No promise speaks of them.

-- the moment, a sample late, of the crossing at a sample, by the threshold there
abbrev pub crossing_after : FinderState → ℕ → ℤ → Option ℕ
crossing_after state threshold sample =
    let side = side_of threshold sample in
    cond (differs state.side side) (Some (state.tick + tick_to side state.fineness threshold state.before sample)) None

-- the level after a sample
abbrev pub level_in : FinderState → ℤ → Level
level_in state sample = next_level state.threshold state.level sample

-- the moment of the crossing at a sample
abbrev pub crossing_in : FinderState → ℤ → Option ℕ
crossing_in state sample = crossing_after state (threshold_by state.threshold (level_in state sample)) sample

-- what is kept after a sample, at this level and by the threshold there
abbrev pub after_sum : FinderState → Level → ℕ → ℤ → FinderState
after_sum state level threshold sample =
    state_of state.fineness state.threshold state.start (state.tick + state.fineness) sample level
    (option_or (side_of threshold sample) state.side) (option_or (crossing_after state threshold sample) state.latest)

-- what is kept after a sample
abbrev pub state_after : FinderState → ℤ → FinderState
state_after state sample =
    after_sum state (level_in state sample) (threshold_by state.threshold (level_in state sample)) sample

-- from one moment to the next, where both are there
abbrev pub between : Option ℕ → Option ℕ → Option ℕ
between None now = None
between (Some before) None = None
between (Some before) (Some now) = Some (now - before)

-- the distance that a sample brings
abbrev pub distance_at : FinderState → ℤ → Option ℕ
distance_at state sample = between state.latest (crossing_in state sample)
