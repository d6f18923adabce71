-- What the words say of a sound file of whose track the best path is to be written.
use Rattle.std.specs.Prelude.{ℕ, ◌*◌, ◌≤◌, Option, Some, None}
use Rattle.std.specs.Option.{option_map}
use Rattle.step_grid.specs.declared.grid.Grid.{Grid}
use Rattle.tc_address.specs.declared.system.System.{System}
use Rattle.tc_address.specs.Count.{rate_of}
use Rattle.tc_job.specs.PathGrid.{grid_for, step_ticks}
use Rattle.tc_job.specs.PathSlicing.{path_slicing_of, SlicesPath}
use Rattle.tc_job.specs.SoundLevel.{IsLevel}
use Rattle.limits.specs.declared.sound_file.TheConstants.{MAX_TRACKS}

-- time code of a system, in a track, of this level at least
pub record SlicesTrackPath : Type 0 where
  pub system : System
  pub track : ℕ
  pub least : ℕ

-- a track whose best path is to be written, by its values
abbrev pub track_path_of : System → ℕ → ℕ → SlicesTrackPath
track_path_of system track least = record { system = system; track = track; least = least }

-- a track that a file can have, and a level of samples
pub record IsTrackPath (t : SlicesTrackPath) : Type 0 where
  pub some_track : 1 ≤ t.track
  pub not_too_many : t.track ≤ MAX_TRACKS
  pub level : IsLevel t.least

-- the least rate of a file, in samples a second: 140 samples a frame, so that a cell at play speed has 14 steps if a
-- sample has eight
abbrev pub least_rate_of : System → ℕ
least_rate_of system = 140 * rate_of system

-- the sound of a track on a grid, as `pcm-ltc .. path` takes it with 16 ticks a sample
abbrev pub sound_on : SlicesTrackPath → ℕ → Option Grid → Option SlicesPath
sound_on t rate None = None
sound_on t rate (Some grid) =
    option_map (λ ticks. path_slicing_of t.system rate t.least 16 grid ticks) (step_ticks 16 grid)

-- and of this many samples a second
abbrev pub sound_of : SlicesTrackPath → ℕ → Option SlicesPath
sound_of t rate = sound_on t rate (grid_for t.system rate)
