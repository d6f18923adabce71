-- The sound file as a whole text, piece after piece: the form, the letters WAVE, and chunks up to the first one of
-- `data`, whose blocks are the samples. A piece is judged when it is whole: the first one that is not taken is the
-- fault.
use Rattle.std.specs.Prelude.{ℕ, zero, suc, ◌+◌, ◌/◌, ◌%◌, min, ℤ, Bool, false, ◌==◌, nat_le, if◌then◌else◌}
use Rattle.std.specs.Prelude.{List, [], ◌∷◌, length, take, drop, Option, Some, None, Result, Ok, Err}
use Rattle.byteorder.specs.Endian.{big_number, little_number}
use Rattle.file_faults.specs.declared.sound.WaveFault.{WaveFault}
use Rattle.file_faults.specs.declared.sound.WaveFault.TheVariants as fault
use Rattle.wave_file.specs.declared.format.WaveFormat.{WaveFormat}
use Rattle.wave_file.specs.declared.chunk.Chunk.{Chunk}
use Rattle.wave_file.specs.declared.chunk.Chunk.TheVariants as chunk
use Rattle.wave_file.specs.declared.chunk.Extent.{Extent}
use Rattle.wave_file.specs.declared.chunk.Extent.TheVariants as extent
use Rattle.wave_file.specs.declared.chunk.Notes.{Notes}
use Rattle.wave_file.specs.declared.chunk.TheConstants.{WAVE}
use Rattle.wave_file.specs.declared.stage.TheConstants.{MAX_BYTES}
use Rattle.tc_io.specs.Verdict.{Verdict, good, refused, past_limit}
use Rattle.wave_file.specs.Format.{format_in, samples_at}
use Rattle.wave_file.specs.Chunk.{chunk_of, form_of, no_notes}
use Rattle.wave_file.specs.declared.format.Asked.{Asked}

-- what bytes say of a sound file: its format, where the data begin; the samples of a track, of whole blocks before the
-- limit; and whether the input may end there
pub record Reading : Type 0 where
  pub format : Option WaveFormat
  pub samples : List ℤ
  pub verdict : Verdict WaveFault
  pub may_end : Bool

-- the bytes end before the data begin
abbrev pub unfinished : Reading
unfinished = record { format = None; samples = []; verdict = good; may_end = false }

-- a file that is refused for this fault before it has a format
abbrev pub bad : WaveFault → Reading
bad f = record { format = None; samples = []; verdict = refused f; may_end = false }

-- a piece of this many bytes, and what it brings: fewer bytes bring nothing yet
abbrev pub piece : ℕ → (List ℕ → List ℕ → Reading) → List ℕ → Reading
piece width brings bytes =
    if nat_le width (length bytes) then brings (take width bytes) (drop width bytes) else unfinished

-- what follows, where there is no fault
abbrev pub taken : {A : Type 0} → Result A WaveFault → (A → Reading) → Reading
taken (Ok value) next = next value
taken (Err f) next = bad f

-- ---- data

-- how many bytes of the data are there
abbrev pub bytes_inside : Extent → List ℕ → ℕ
bytes_inside (extent.Announced n) bytes = min n (length bytes)
bytes_inside extent.Open bytes = length bytes

-- data may end behind the announced bytes, or where their number was not known, behind a whole block
abbrev pub may_end_at : ℕ → Extent → List ℕ → Bool
may_end_at block (extent.Announced n) bytes = nat_le n (length bytes)
may_end_at block extent.Open bytes = length bytes % block == 0

-- how many whole blocks of the data are there
abbrev pub blocks_inside : WaveFormat → Extent → List ℕ → ℕ
blocks_inside format extent bytes = bytes_inside extent bytes / format.block

-- the samples of the whole blocks, at most this many
abbrev pub data_at : Asked → WaveFormat → Extent → ℕ → List ℕ → Reading
data_at asked format extent room bytes = record {
  format = Some format;
  samples = samples_at format asked (min room (blocks_inside format extent bytes)) bytes;
  verdict = if nat_le (blocks_inside format extent bytes) room then good else past_limit;
  may_end = may_end_at format.block extent bytes;
}

-- ---- chunks

-- the bytes of `fmt ` that are judged: the first 26, or all
abbrev pub judged_width : ℕ → ℕ
judged_width size = min 26 size

-- `fmt ` of a size whose bytes stand at a place
abbrev pub format_at : Asked → Notes → ℕ → ℕ → (Notes → Reading) → List ℕ → Reading
format_at asked notes place size next bytes =
    piece (judged_width size)
    (λ body rest. taken (format_in asked place body) (λ format. next (record notes { format = Some format }))) bytes

-- `ds64`: the size of the data stands at its byte 8
abbrev pub sizes_at : Notes → (Notes → Reading) → List ℕ → Reading
sizes_at notes next bytes =
    piece 16 (λ body rest. next (record notes { data_size = Some (little_number 8 (drop 8 body)) })) bytes

-- a chunk whose bytes stand at a place, and what comes behind its bytes
abbrev pub chunk_at : Asked → Notes → ℕ → Chunk → (ℕ → Notes → Reading) → List ℕ → Reading
chunk_at asked notes place (chunk.Format size) next bytes = format_at asked notes place size (next size) bytes
chunk_at asked notes place (chunk.Sizes size) next bytes = sizes_at notes (next size) bytes
chunk_at asked notes place (chunk.Data format extent) next bytes = data_at asked format extent asked.most_samples bytes
chunk_at asked notes place (chunk.Other size) next bytes = next size notes

-- the bytes of a chunk with the one of padding that makes their number even
abbrev pub padded : ℕ → ℕ
padded size = size + size % 2

-- this many bytes that belong to a chunk, and then chunks: four letters, a size, and its bytes
unfoldable pub chunks_at : Asked → ℕ → Notes → ℕ → List ℕ → Reading
chunks_at asked (suc skip) notes place (byte ∷ more) = chunks_at asked skip notes (place + 1) more
chunks_at asked zero notes place (a ∷ b ∷ c ∷ d ∷ e ∷ f ∷ g ∷ h ∷ more) =
    taken (chunk_of notes place (big_number 4 (a ∷ b ∷ c ∷ d ∷ [])) (little_number 4 (e ∷ f ∷ g ∷ h ∷ [])))
    (λ chunk. chunk_at asked notes (place
    + 8) chunk (λ size notes. chunks_at asked (padded size) notes (place + 8) more) more)
chunks_at asked skip notes place bytes = unfinished

-- ---- the file

-- the size of what follows it, the letters WAVE, and the chunks
abbrev pub wave_at : Asked → Bool → List ℕ → Reading
wave_at asked is_long bytes =
    piece 8 (λ wave rest. if big_number 4 (drop 4 wave) == WAVE
    then chunks_at asked 0 (no_notes is_long (little_number 4 wave)) 12 rest else bad (fault.Wave 8)) bytes

-- what comes behind the form of the file; bytes without a form are refused
abbrev pub behind_form : Asked → Option Bool → List ℕ → Reading
behind_form asked None bytes = bad (fault.Riff 0)
behind_form asked (Some is_long) bytes = wave_at asked is_long bytes

-- what bytes say of a sound file, from the first byte on
abbrev pub file_at : Asked → List ℕ → Reading
file_at asked bytes = piece 4 (λ letters rest. behind_form asked (form_of (big_number 4 letters)) rest) bytes

-- more bytes than are read, where these have no fault and are within the limit
abbrev pub and_more : Verdict WaveFault → Verdict WaveFault
and_more good = past_limit
and_more (refused f) = refused f
and_more past_limit = past_limit

-- of bytes behind the greatest number nothing is asked
abbrev pub reading_of : Asked → List ℕ → Reading
reading_of asked bytes =
    if nat_le (length bytes) MAX_BYTES then file_at asked bytes
    else let r = file_at asked (take MAX_BYTES bytes) in record r { verdict = and_more r.verdict; may_end = false }

-- the fault of bytes after which the input may not end
abbrev pub end_fault_of : Asked → List ℕ → Option WaveFault
end_fault_of asked bytes = if (reading_of asked bytes).may_end then None else Some (fault.Truncated (length bytes))
