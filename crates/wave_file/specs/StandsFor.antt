-- Which bytes a decoder of a sound file stands for. No promise but its clauses speaks of it.
use Rattle.std.specs.Prelude.{◌≡◌, ⊤, ◌≤◌, ◌<◌, ℕ, ◌+◌, ◌-◌, ◌*◌, min, ℤ, Bool, true, false, ◌==◌, List, []}
use Rattle.std.specs.Prelude.{◌++◌, length, take, Option, Some, None}
use Rattle.wave_file.specs.declared.chunk.Extent.TheVariants as extent
use Rattle.wave_file.specs.declared.chunk.Notes.{Notes}
use Rattle.wave_file.specs.declared.decoder.Taken.{Taken}
use Rattle.wave_file.specs.declared.decoder.Taken.TheVariants.{Few, Nothing, Begin, Samples, Fault, Limit}
use Rattle.file_faults.specs.declared.sound.WaveFault.{WaveFault}
use Rattle.wave_file.specs.declared.format.Asked.{Asked}
use Rattle.wave_file.specs.declared.format.WaveFormat.{WaveFormat}
use Rattle.wave_file.specs.declared.stage.Stage.{Stage}
use Rattle.wave_file.specs.declared.stage.Stage.TheVariants.{Riff, Data, Tail}
use Rattle.wave_file.specs.declared.stage.TheConstants.{MAX_BYTES, MAX_PIECE}
use Rattle.wave_file.specs.Chunk.{no_notes, IsNoted}
use Rattle.wave_file.specs.Format.{IsAsked}
use Rattle.wave_file.specs.Stage.{at, format_at_stage, up_to_end, width_of, IsStage}
use Rattle.wave_file.specs.Step.{with_samples}
use Rattle.wave_file.specs.Wave.{Reading, file_at, reading_of}
use Rattle.tc_io.specs.Verdict.{Verdict, good, refused, past_limit}

-- what is asked, what the chunks so far say, the place behind the bytes that were taken, and what the next bytes are
pub record Decoding : Type 0 where
  pub asked : Asked
  pub notes : Notes
  pub place : ℕ
  pub stage : Stage

-- a decoder, by its parts
abbrev pub decoding_of : Asked → Notes → ℕ → Stage → Decoding
decoding_of asked notes place stage = record { asked = asked; notes = notes; place = place; stage = stage }

-- of no bytes
abbrev pub no_decoding : Asked → Decoding
no_decoding asked = decoding_of asked (no_notes false 0) 0 Riff

-- the format, where the data have begun
abbrev pub format_in_decoding : Decoding → Option WaveFormat
format_in_decoding d = format_at_stage d.stage

-- what a decoder keeps is in its range
pub record IsDecoding (d : Decoding) : Type 0 where
  pub least : IsAsked d.asked
  pub most : d.asked.track ≤ 64
  pub notes : IsNoted d.asked d.notes
  pub stage : IsStage d.asked d.place d.stage
  pub wait : 1 ≤ width_of d.stage
  pub within : d.place ≤ MAX_BYTES

-- the decoder was given these bytes, and gave these samples
pub record StandsFor (d : Decoding) (bytes : List ℕ) (samples : List ℤ) : Type 0 where
  pub place : d.place ≡ length bytes
  pub follows : (more : List ℕ) → file_at d.asked (bytes ++ more)
      ≡ with_samples samples (at d.asked d.notes d.place d.stage more)

-- ---- what a call answers

-- this many of the bytes were taken, and these samples given
pub record Adds (old new : Decoding) (bytes : List ℕ) (count : ℕ) (more : List ℤ) : Type 0 where
  pub some : 1 ≤ count
  pub within : count ≤ length bytes
  pub taken : new.place ≡ old.place + count
  pub asked : new.asked ≡ old.asked
  pub stands : (front : List ℕ) (samples : List ℤ) → StandsFor old front samples
      → StandsFor new (front ++ take count bytes) (samples ++ more)

-- the next piece begins with these bytes, and is not whole
pub record IsCut (d : Decoding) (bytes : List ℕ) : Type 0 where
  pub some : 1 ≤ length bytes
  pub few : length bytes < width_of d.stage
  pub within : d.place + length bytes ≤ MAX_BYTES

-- what was taken, and whether the data began: only `Begin` tells a format, and it tells it once. Samples are those of
-- whole blocks, at the front of the room
abbrev pub AddsTaken : Decoding → Decoding → List ℕ → List ℤ → Taken → Type 0
AddsTaken old new bytes room Few = (new ≡ old) × IsCut old bytes × (length bytes < MAX_PIECE)
AddsTaken old new bytes room (Nothing count) =
    Adds old new bytes count [] × (format_in_decoding new ≡ format_in_decoding old)
AddsTaken old new bytes room (Begin count format) =
    Adds old new bytes count [] × (format_in_decoding old ≡ None) × (format_in_decoding new ≡ Some format)
AddsTaken old new bytes room (Samples count samples) =
    Adds old new bytes count (take samples room) × (format_in_decoding new ≡ format_in_decoding old)
    × (count ≡ samples * width_of old.stage) × (samples ≤ length room)
AddsTaken old new bytes room (Fault f) = new ≡ old
AddsTaken old new bytes room Limit = new ≡ old

-- so many bytes were taken, where the reading goes on
abbrev pub TakesCount : ℕ → Taken → Type 0
TakesCount count Few = ⊤
TakesCount count (Nothing n) = n ≡ count
TakesCount count (Begin n format) = n ≡ count
TakesCount count (Samples n samples) = n ≡ count
TakesCount count (Fault f) = ⊤
TakesCount count Limit = ⊤

-- how many of the bytes are taken: a piece, all that are passed over, or all whole blocks of data for which there is
-- room, within the most bytes that are read
abbrev pub wanted : Decoding → List ℕ → List ℤ → ℕ
wanted d bytes room = up_to_end d.stage (length room) (min (length bytes) (MAX_BYTES - d.place))

-- what bytes show, behind this format and these samples
pub record IsTold (r : Reading) (format : Option WaveFormat) (samples : List ℤ) (verdict : Verdict WaveFault) : Type 0
  where
    pub format_is : r.format ≡ format
    pub samples_are : r.samples ≡ samples
    pub verdict_is : r.verdict ≡ verdict

-- bytes that end the reading, whatever follows; or that are too few, and show nothing more
abbrev pub StopsAt : Decoding → List ℕ → List ℤ → Taken → Type 0
StopsAt d bytes samples Few = IsTold (reading_of d.asked bytes) (format_in_decoding d) samples good
StopsAt d bytes samples (Nothing count) = ⊤
StopsAt d bytes samples (Begin count format) = ⊤
StopsAt d bytes samples (Samples count given) = ⊤
StopsAt d bytes samples (Fault f) =
    (more : List ℕ) → IsTold (reading_of d.asked (bytes ++ more)) (format_in_decoding d) samples (refused f)
StopsAt d bytes samples Limit =
    (more : List ℕ) → IsTold (reading_of d.asked (bytes ++ more)) (format_in_decoding d) samples past_limit

-- the input may end before bytes of a stage
abbrev pub may_end_before : Stage → Bool
may_end_before (Tail format left) = left == 0
may_end_before (Data format extent.Open room) = true
may_end_before stage = false
