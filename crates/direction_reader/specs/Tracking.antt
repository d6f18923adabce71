-- Where the tracker is: its state, with what the tolerance keeps of the cells so far.
use Rattle.std.specs.Prelude.{◌≡◌, ◌≤◌, None}
use Rattle.limits.specs.declared.recording.TheConstants.{MAX_INTERVAL}
use Rattle.biphase.specs.declared.profile.Profile.{Profile}
use Rattle.biphase.specs.Latest.{Latest}
use Rattle.biphase.specs.Tolerance.{Fits}
use Rattle.cell_tracker.specs.State.{HuntingState, AtCellState, MidCellState, at_cell_with, mid_cell_with}
use Rattle.direction_reader.specs.declared.state.State.{State}
use Rattle.direction_reader.specs.declared.state.State.TheVariants as held

-- at the end of a cell, inside a one, or between stretches
pub data Tracking : Type 0 where
  AtCell : AtCellState → Tracking
  MidCell : MidCellState → Tracking
  Hunting : HuntingState → Tracking

-- a search that begins, with no interval before
abbrev pub searching : Profile → Tracking
searching profile = Hunting (record { profile = profile; before = None })

-- by what a state holds, and the profile and the latest four lengths beside it
abbrev pub tracking_with : Profile → State → Latest → Tracking
tracking_with profile (held.AtCell reference) four =
    AtCell (at_cell_with (record { profile = profile; reference = reference }) four)
tracking_with profile (held.MidCell reference half) four =
    MidCell (mid_cell_with (record { profile = profile; reference = reference; half = half }) four)
tracking_with profile (held.Hunting h) four = Hunting h

-- the three fit each other
abbrev pub StateFits : Profile → State → Latest → Type 0
StateFits profile (held.AtCell reference) four = Fits profile reference four
StateFits profile (held.MidCell reference half) four = Fits profile reference four × (half ≤ MAX_INTERVAL)
StateFits profile (held.Hunting h) four = h.profile ≡ profile
