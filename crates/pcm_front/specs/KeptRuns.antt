-- Samples that were taken one after another, and the distance that they brought. No promise speaks of this.
use Rattle.std.specs.Prelude.{◌≡◌, ℕ, ◌+◌, ◌-◌, ◌*◌, ℤ, List, ◌++◌, length, slice_range, Option, None}
use Rattle.std.specs.Option.{option_to_list}
use Rattle.pcm_front.specs.declared.level.Level.{Level}
use Rattle.pcm_front.specs.declared.side.Side.{Side}
use Rattle.pcm_front.specs.declared.still.Passed.{Passed}
use Rattle.pcm_front.specs.declared.threshold.Threshold.{Threshold}
use Rattle.pcm_front.specs.StandsFor.{distances_in, Stand}
use Rattle.pcm_front.specs.State.{FinderState, WindowState}

-- from what was kept before to what is kept now, these samples were taken, and they brought this distance
pub record RunsTo (before now : FinderState) (window after : WindowState) (taken : List ℤ) (distance : Option ℕ) : Type
    0 where
  pub fineness : now.fineness ≡ before.fineness
  pub threshold : now.threshold ≡ before.threshold
  pub start : now.start ≡ before.start
  pub smooth : after.smooth ≡ window.smooth
  pub tick : now.tick ≡ before.tick + before.fineness * length taken
  pub stands : (front : List ℤ) → Stand before window front → Stand now after (front ++ taken)
  pub brings : (front : List ℤ) → Stand before window front
      → distances_in before window (front ++ taken) ≡ distances_in before window front ++ option_to_list distance

-- the later one
abbrev pub latest : ℤ → ℤ → ℤ
latest before sample = sample

-- finding crossings stands on this side, after this sum, at this level
pub record IsAt (state : FinderState) (side : Option Side) (threshold : Threshold) (before : ℤ) (level : Level) : Type 0
  where
    pub side_is : state.side ≡ side
    pub threshold_is : state.threshold ≡ threshold
    pub before_is : state.before ≡ before
    pub level_is : state.level ≡ level

-- and after this many samples more, where the sound stayed on its side
abbrev pub still_at : FinderState → ℕ → ℤ → Level → FinderState
still_at state count before level =
    record state { tick = state.tick + state.fineness * count; before = before; level = level }

-- the sound stayed on its side from one place to the other
abbrev pub PassesTo : Option Side → Threshold → List ℤ → Passed → Passed → WindowState → WindowState → Type 0
PassesTo side threshold samples from now window after =
    (state : FinderState) → IsAt state side threshold from.before from.level
    → RunsTo state (still_at state (now.end - from.end) now.before now.level) window after
    (slice_range samples from.end now.end) None
