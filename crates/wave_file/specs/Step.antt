-- What a whole piece brings to what the bytes say. No promise speaks of it.
use Rattle.std.specs.Prelude.{◌≡◌, ◌≤◌, ℕ, ◌+◌, ℤ, List, [], ◌++◌, length, None, Some}
use Rattle.wave_file.specs.declared.chunk.Notes.{Notes}
use Rattle.wave_file.specs.declared.stage.Ahead.{Ahead}
use Rattle.wave_file.specs.declared.stage.Ahead.TheVariants.{Passed, Blocks, Piece}
use Rattle.wave_file.specs.declared.stage.Stage.{Stage}
use Rattle.wave_file.specs.declared.stage.Stage.TheVariants.{Data}
use Rattle.wave_file.specs.declared.stage.Step.{Step}
use Rattle.wave_file.specs.declared.stage.Step.TheVariants.{Next, Begin, Fault}
use Rattle.wave_file.specs.Chunk.{IsNoted}
use Rattle.wave_file.specs.Stage.{at, format_at_stage, up_to_end, width_of, IsPassed, IsStage, IsWaiting}
use Rattle.wave_file.specs.Wave.{Reading, bad}
use Rattle.tc_io.specs.Verdict.{past_limit}
use Rattle.wave_file.specs.declared.format.Asked.{Asked}

-- behind other samples
abbrev pub with_samples : List ℤ → Reading → Reading
with_samples samples r = record r { samples = samples ++ r.samples }

-- one sample too many: none of it
pub record IsPast (stage : Stage) (r : Reading) : Type 0 where
  pub verdict : r.verdict ≡ past_limit
  pub samples : r.samples ≡ []
  pub format : r.format ≡ format_at_stage stage

-- the stage behind a piece says the same of the bytes that follow
pub record Leads (asked : Asked) (notes : Notes) (place : ℕ) (stage : Stage) (piece : List ℕ) (samples : List ℤ)
    (new : Notes) (next : Stage) : Type 0 where
  pub noted : IsNoted asked notes → IsNoted asked new
  pub is : IsStage asked (place + length piece) next
  pub wait : 1 ≤ width_of next
  pub says : (more : List ℕ) → at asked notes place stage (piece ++ more)
      ≡ with_samples samples (at asked new (place + length piece) next more)

-- what a piece brings
abbrev pub IsStep : Asked → Notes → ℕ → Stage → List ℕ → Step → Type 0
IsStep asked notes place stage piece (Next new next) =
    Leads asked notes place stage piece [] new next × (format_at_stage stage ≡ None) × (format_at_stage next ≡ None)
IsStep asked notes place stage piece (Begin format next) =
    Leads asked notes place stage piece [] notes next × (format_at_stage stage ≡ None)
    × (format_at_stage next ≡ Some format)
IsStep asked notes place stage piece (Fault f) =
    (format_at_stage stage ≡ None) × ((more : List ℕ) → at asked notes place stage (piece ++ more) ≡ bad f)

-- what is ahead in this many bytes: all that are passed over up to the next piece, blocks, or a piece
abbrev pub IsAhead : Stage → ℕ → Ahead → Type 0
IsAhead old most (Passed count new) = IsPassed old most count new × ((places : ℕ) → count ≡ up_to_end old places most)
IsAhead old most (Blocks format extent room) = old ≡ Data format extent room
IsAhead old most Piece = IsWaiting old
