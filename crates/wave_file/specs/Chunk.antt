-- The chunks of a sound file: what their letters and sizes say (EBU Tech 3285; ITU-R BS.2088 for sizes of 64 bits).
use Rattle.std.specs.Prelude.{⊤, ◌≤◌, ℕ, zero, suc, Bool, true, false, not, ◌&&◌, ◌||◌, ◌==◌, nat_le, nat_lt}
use Rattle.std.specs.Prelude.{if◌then◌else◌, Option, Some, None, Result, Ok, Err, IfSome}
use Rattle.file_faults.specs.declared.sound.WaveFault.{WaveFault}
use Rattle.file_faults.specs.declared.sound.WaveFault.TheVariants as fault
use Rattle.wave_file.specs.declared.format.WaveFormat.{WaveFormat}
use Rattle.wave_file.specs.Format.{IsTakenFor}
use Rattle.wave_file.specs.declared.chunk.Chunk.{Chunk}
use Rattle.wave_file.specs.declared.chunk.Chunk.TheVariants as chunk
use Rattle.wave_file.specs.declared.chunk.Extent.{Extent}
use Rattle.wave_file.specs.declared.chunk.Extent.TheVariants as extent
use Rattle.wave_file.specs.declared.chunk.Notes.{Notes}
use Rattle.wave_file.specs.declared.chunk.TheConstants.{RIFF, RF64, BW64, FORMAT, SIZES, DATA, NO_SIZE}
use Rattle.wave_file.specs.declared.chunk.TheConstants.{LEAST_OPEN_SIZE, GREATEST_OPEN_SIZE}
use Rattle.wave_file.specs.declared.format.Asked.{Asked}

-- the first four letters: RF64 and BW64 have their sizes in 64 bits
abbrev pub form_of : ℕ → Option Bool
form_of letters =
    if letters == RIFF then Some false
    else if letters == RF64 then Some true
    else if letters == BW64 then Some true
    else None

-- no chunk yet: the form, and the size behind its letters
abbrev pub no_notes : Bool → ℕ → Notes
no_notes is_long file_size = record { is_long = is_long; file_size = file_size; format = None; data_size = None }

-- the great sizes that programs write in RIFF where they do not know the length: ffmpeg the greatest one, sox, ALSA and
-- GStreamer one about 2 to the 31st
abbrev pub is_open_size : ℕ → Bool
is_open_size size = (size == NO_SIZE) || (nat_le LEAST_OPEN_SIZE size && nat_le size GREATEST_OPEN_SIZE)

-- or they write no size, as flac and mpg123 do: 0, where the size of the file, which counts what stands behind its
-- first eight bytes, is 0 too, or that of the bytes up to the head of the data at this place
abbrev pub is_open : Notes → ℕ → ℕ → Bool
is_open notes place size = is_open_size size || ((size == 0) && nat_le notes.file_size place)

-- how far data go whose size stands in ds64: 0 there says that the length was not known
abbrev pub long_extent : Option ℕ → Option Extent
long_extent None = None
long_extent (Some zero) = Some extent.Open
long_extent (Some (suc n)) = Some (extent.Announced (suc n))

-- how far data of this size at a place go, where that is said
abbrev pub extent_of : Notes → ℕ → ℕ → Option Extent
extent_of notes place size =
    if not notes.is_long then (if is_open notes place size then Some extent.Open else Some (extent.Announced size))
    else if not (size == NO_SIZE) then Some (extent.Announced size)
    else long_extent notes.data_size

-- data want their extent, and then a format
abbrev pub data_with : ℕ → Option Extent → Option WaveFormat → Result Chunk WaveFault
data_with place None format = Err (fault.Ds64 place)
data_with place (Some extent) None = Err (fault.Format place)
data_with place (Some extent) (Some format) = Ok (chunk.Data format extent)

-- the chunk of the samples at a place, or what is missing before it
abbrev pub data_in : Notes → ℕ → ℕ → Result Chunk WaveFault
data_in notes place size = data_with place (extent_of notes place size) notes.format

-- the chunk that letters and a size begin at a place, behind other chunks; or their fault
abbrev pub chunk_of : Notes → ℕ → ℕ → ℕ → Result Chunk WaveFault
chunk_of notes place letters size =
    if letters == DATA then data_in notes place size
    else if letters == FORMAT then (if nat_lt size 16 then Err (fault.Format place) else Ok (chunk.Format size))
    else if (letters == SIZES) && notes.is_long
    then (if nat_lt size 16 then Err (fault.Ds64 place) else Ok (chunk.Sizes size))
    else Ok (chunk.Other size)

-- ---- what is known of a chunk

-- the formats in notes are taken
abbrev pub IsNoted : Asked → Notes → Type 0
IsNoted asked notes = IfSome notes.format (λ format. IsTakenFor asked format)

-- the chunk is long enough, and its format is taken
abbrev pub IsChunkFor : Asked → Chunk → Type 0
IsChunkFor asked (chunk.Format size) = 16 ≤ size
IsChunkFor asked (chunk.Sizes size) = 16 ≤ size
IsChunkFor asked (chunk.Data format extent) = IsTakenFor asked format
IsChunkFor asked (chunk.Other size) = ⊤
