-- The format of a sound file, as the chunk `fmt ` gives it, and the samples of a track in its blocks (EBU Tech 3285,
-- ITU-R BS.2088). Numbers have the less significant byte first. Which formats are taken is this project's own.
use Rattle.std.specs.Prelude.{◌≡◌, ◌≤◌, ℕ, zero, suc, ◌+◌, ◌-◌, ◌*◌, ◌/◌, ℤ, pos, ◌-ℤ◌, Bool, not, ◌&&◌, ◌||◌, ◌==◌}
use Rattle.std.specs.Prelude.{nat_le, nat_lt, if◌then◌else◌}
use Rattle.std.specs.Prelude.{List, [], ◌∷◌, length, take, drop, slice_index, Option, Some, None, Result, Ok, Err}
use Rattle.std.specs.Int.{w16, cast_signed}
use Rattle.byteorder.specs.Endian.{little_number}
use Rattle.file_faults.specs.declared.sound.WaveFault.{WaveFault}
use Rattle.file_faults.specs.declared.sound.WaveFault.TheVariants as fault
use Rattle.wave_file.specs.declared.format.WaveFormat.{WaveFormat}
use Rattle.wave_file.specs.declared.format.TheConstants.{MAX_RATE}
use Rattle.wave_file.specs.declared.stage.TheConstants.{MAX_SAMPLES}
use Rattle.limits.specs.declared.sound_file.TheConstants.{MAX_TRACKS}
use Rattle.wave_file.specs.declared.format.Asked.{Asked}

-- ---- what is asked for

-- a track from 1, from 1 sample a second on, and samples within the limit
pub record IsAsked (asked : Asked) : Type 0 where
  pub first : 1 ≤ asked.track
  pub some_rate : 1 ≤ asked.least_rate
  pub few : asked.most_samples ≤ MAX_SAMPLES

-- ---- the format

-- the fields: tracks at byte 2, samples a second at byte 4, bytes a block at byte 12, and bits a sample at byte 14
abbrev pub format_of : List ℕ → WaveFormat
format_of body = record {
  tracks = little_number 2 (drop 2 body);
  rate = little_number 4 (drop 4 body);
  block = little_number 2 (drop 12 body);
  bits = little_number 2 (drop 14 body);
}

-- samples are whole numbers: format 1, or format 65,534 whose subformat, at byte 24, is 1
abbrev pub is_pcm : List ℕ → Bool
is_pcm body =
    (little_number 2 body == 1)
    || ((little_number 2 body == 65_534) && (nat_le 26 (length body) && (little_number 2 (drop 24 body) == 1)))

-- a file may have this many tracks
abbrev pub is_track_count : ℕ → Bool
is_track_count tracks = nat_le 1 tracks && nat_le tracks MAX_TRACKS

-- a file may have this many samples a second, and no fewer than are asked
abbrev pub is_rate : ℕ → ℕ → Bool
is_rate least rate = nat_le least rate && nat_le rate MAX_RATE

-- a sample may have this many bits
abbrev pub is_sample_size : ℕ → Bool
is_sample_size bits = (bits == 8) || ((bits == 16) || ((bits == 24) || (bits == 32)))

-- the first field that is not taken, a rate below the least that is asked among them, and behind all of them a track
-- that is not there
abbrev pub field_fault : Asked → ℕ → Bool → WaveFormat → Option WaveFault
field_fault asked place is_pcm format =
    if not is_pcm then Some (fault.Format place)
    else if not (is_track_count format.tracks) then Some (fault.Format (place + 2))
    else if not (is_rate asked.least_rate format.rate) then Some (fault.Format (place + 4))
    else if not (8 * format.block == format.tracks * format.bits) then Some (fault.Format (place + 12))
    else if not (is_sample_size format.bits) then Some (fault.Format (place + 14))
    else if nat_lt format.tracks asked.track then Some (fault.Track (place + 2))
    else None

-- the value, unless there is a fault
abbrev pub unless : {A : Type 0} → Option WaveFault → A → Result A WaveFault
unless (Some f) value = Err f
unless None value = Ok value

-- the format of the first bytes of a chunk, which stand at a place, for a track from 1
abbrev pub format_in : Asked → ℕ → List ℕ → Result WaveFormat WaveFault
format_in asked place body = unless (field_fault asked place (is_pcm body) (format_of body)) (format_of body)

-- a format that is taken for a track
pub record IsTakenFor (asked : Asked) (format : WaveFormat) : Type 0 where
  pub first : 1 ≤ asked.track
  pub among : asked.track ≤ format.tracks
  pub most : format.tracks ≤ 64
  pub rate_least : 1 ≤ format.rate
  pub rate_asked : asked.least_rate ≤ format.rate
  pub rate_most : format.rate ≤ 6_250_000
  pub bits_least : 8 ≤ format.bits
  pub bits_most : format.bits ≤ 32
  pub whole : format.bits ≡ 8 * (format.bits / 8)
  pub block : format.block ≡ format.tracks * (format.bits / 8)
  pub some : 1 ≤ format.block
  pub room : format.block ≤ 256

-- ---- the samples

-- the bytes of a sample
abbrev pub sample_width : WaveFormat → ℕ
sample_width format = format.bits / 8

-- the sample of a track in a block, as its upper 16 bits: the two bytes above, or of 8 bits, which have no sign, 256
-- times what they stand above 128
abbrev pub sample_in : WaveFormat → Asked → List ℕ → ℤ
sample_in format asked block =
    if sample_width format == 1 then pos (256 * slice_index block (asked.track - 1)) -ℤ pos 32_768
    else cast_signed w16 (little_number 2 (drop (asked.track * sample_width format - 2) block))

-- the samples of this many blocks, one block after another
unfoldable pub samples_at : WaveFormat → Asked → ℕ → List ℕ → List ℤ
samples_at format asked zero bytes = []
samples_at format asked (suc count) bytes =
    sample_in format asked (take format.block bytes) ∷ samples_at format asked count (drop format.block bytes)
