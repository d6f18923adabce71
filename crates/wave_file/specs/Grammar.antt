-- A sound file as a text, as a writer makes it (EBU Tech 3285; ITU-R BS.2088): a form, chunks before the data, the
-- format, the blocks of the data, and what follows them. Numbers have the less significant byte first, letters as
-- they are read.
use Rattle.std.specs.Prelude.{◌≡◌, ◌≢◌, ◌⊎◌, ◌≤◌, ◌<◌, ◌^◌, ℕ, ◌+◌, ◌-◌, ◌*◌, ◌%◌, ℤ, pos, ◌-ℤ◌, FitsSigned}
use Rattle.std.specs.Prelude.{true, false}
use Rattle.std.specs.Prelude.{List, [], ◌∷◌, ◌++◌, length, map, replicate, get_or, Some}
use Rattle.std.specs.Int.{w16, cast_unsigned}
use Rattle.std.specs.List.{flat_map, AllByRecursion}
use Rattle.byteorder.specs.Endian.{big_bytes, little_bytes}
use Rattle.wave_file.specs.declared.chunk.TheConstants.{RIFF, RF64, BW64, WAVE, FORMAT, SIZES, DATA, NO_SIZE}
use Rattle.wave_file.specs.declared.chunk.TheConstants.{LEAST_OPEN_SIZE}
use Rattle.wave_file.specs.declared.format.WaveFormat.{WaveFormat}
use Rattle.wave_file.specs.declared.stage.TheConstants.{MAX_BYTES}
use Rattle.wave_file.specs.Chunk.{is_open, no_notes}
use Rattle.wave_file.specs.Format.{sample_width, IsTakenFor}
use Rattle.wave_file.specs.Wave.{Reading}
use Rattle.tc_io.specs.Verdict.{good}
use Rattle.wave_file.specs.declared.format.Asked.{Asked}

-- ---- samples

-- a sample of 8 bits, which have no sign, is a byte; one of 16, 24 or 32 has 0, 1 or 2 bytes below its upper 16 bits,
-- which have a sign
pub data Sample : Type 0 where
  Eight : ℕ → Sample
  Wide : List ℕ → ℤ → Sample

-- its bytes
abbrev pub sample_text : Sample → List ℕ
sample_text (Eight byte) = byte ∷ []
sample_text (Wide below upper) = below ++ little_bytes 2 (cast_unsigned w16 upper)

-- what is read of it: its upper 16 bits, or of 8 bits 256 times what they stand above 128
abbrev pub value_of : Sample → ℤ
value_of (Eight byte) = pos (256 * byte) -ℤ pos 32_768
value_of (Wide below upper) = upper

-- it has this many bytes
abbrev pub IsOfWidth : ℕ → Sample → Type 0
IsOfWidth width (Eight byte) = width ≡ 1
IsOfWidth width (Wide below upper) = (width ≡ length below + 2) × FitsSigned w16 upper

-- the samples of all tracks at one time are a block
abbrev pub block_text : List Sample → List ℕ
block_text block = flat_map sample_text block

-- a block has one sample of each track, all of the format's width
abbrev pub IsBlock : WaveFormat → List Sample → Type 0
IsBlock format block = (length block ≡ format.tracks) × AllByRecursion (IsOfWidth (sample_width format)) block

-- the bytes of the data
abbrev pub data_text : List (List Sample) → List ℕ
data_text blocks = flat_map block_text blocks

-- the samples of a track, from 1
abbrev pub track_of : ℕ → List (List Sample) → List ℤ
track_of track blocks = map (λ block. value_of (get_or block (track - 1) (Eight 0))) blocks

-- ---- chunks

-- letters, and how many bytes follow
abbrev pub head_text : ℕ → ℕ → List ℕ
head_text letters size = big_bytes 4 letters ++ little_bytes 4 size

-- its bytes, and one more where they are odd in number
abbrev pub chunk_text : ℕ → List ℕ → List ℕ
chunk_text letters body = head_text letters (length body) ++ (body ++ replicate (length body % 2) 0)

-- a chunk that is neither the format nor the data, nor in a file of long sizes these
pub record OtherChunk : Type 0 where
  pub letters : ℕ
  pub body : List ℕ

-- a chunk that is not the samples, the format or the sizes of 64 bits
pub record IsOther (chunk : OtherChunk) : Type 0 where
  pub letters : chunk.letters < 2 ^ 32
  pub size : length chunk.body < 2 ^ 32
  pub no_data : chunk.letters ≢ DATA
  pub no_format : chunk.letters ≢ FORMAT
  pub no_sizes : chunk.letters ≢ SIZES

-- the bytes of some chunks, one after another
abbrev pub others_text : List OtherChunk → List ℕ
others_text chunks = flat_map (λ chunk. chunk_text chunk.letters chunk.body) chunks

-- whole numbers, the tracks, blocks a second, bytes a second, bytes a block, bits a sample
abbrev pub format_text : WaveFormat → List ℕ
format_text f =
    little_bytes 2 1 ++ (little_bytes 2 f.tracks ++ (little_bytes 4 f.rate ++ (little_bytes 4 (f.rate * f.block)
    ++ (little_bytes 2 f.block ++ little_bytes 2 f.bits))))

-- the sizes of the file and of its data in 64 bits, a number of samples that is not looked at, and no other sizes
abbrev pub sizes_text : ℕ → ℕ → List ℕ
sizes_text file_size data_size =
    little_bytes 8 file_size ++ (little_bytes 8 data_size ++ (little_bytes 8 0 ++ little_bytes 4 0))

-- ---- files

-- what stands behind the form: chunks, the format, the data of a size, and what follows
abbrev pub behind_head : List OtherChunk → WaveFormat → ℕ → List (List Sample) → List ℕ → List ℕ
behind_head before format size blocks tail =
    others_text before ++ (chunk_text FORMAT (format_text format)
    ++ (head_text DATA size ++ (data_text blocks ++ tail)))

-- a file of sizes of 32 bits: the size of what follows it, and the size of the data
abbrev pub file_of : ℕ → List OtherChunk → WaveFormat → ℕ → List (List Sample) → List ℕ → List ℕ
file_of file_size before format size blocks tail =
    head_text RIFF file_size ++ (big_bytes 4 WAVE ++ behind_head before format size blocks tail)

-- RF64 or BW64, whose sizes of 64 bits stand in a chunk of their own
abbrev pub long_file_of : ℕ → ℕ → ℕ → List OtherChunk → WaveFormat → List (List Sample) → List ℕ → List ℕ
long_file_of form file_size data_size before format blocks tail =
    head_text form NO_SIZE
    ++ (big_bytes 4 WAVE ++ (chunk_text SIZES (sizes_text file_size data_size)
    ++ behind_head before format NO_SIZE blocks tail))

-- the parts of a file fit one another, and a track is among them
pub record AreParts (asked : Asked) (before : List OtherChunk) (format : WaveFormat)
    (blocks : List (List Sample)) : Type 0 where
  pub others : AllByRecursion IsOther before
  pub taken : IsTakenFor asked format
  pub whole : AllByRecursion (IsBlock format) blocks
  pub few : length blocks ≤ asked.most_samples

-- what is read of a file whose samples of a track these are
abbrev pub read_whole : WaveFormat → List ℤ → Reading
read_whole format samples = record { format = Some format; samples = samples; verdict = good; may_end = true }

-- the bytes are a file in RIFF that tells the size of its data
pub record TellsItsSize (asked : Asked) (format : WaveFormat) (blocks : List (List Sample)) (bytes : List ℕ) : Type 0
  where
    pub file_size : ℕ
    pub before : List OtherChunk
    pub tail : List ℕ
    pub are : bytes ≡ file_of file_size before format (length (data_text blocks)) blocks tail
    pub parts : AreParts asked before format blocks
    pub some : 1 ≤ length blocks
    pub fits : file_size < 2 ^ 32
    pub told : length (data_text blocks) < LEAST_OPEN_SIZE

-- they are one in RIFF whose size tells no length, and that ends with its data
pub record TellsNoSize (asked : Asked) (format : WaveFormat) (blocks : List (List Sample)) (bytes : List ℕ) : Type 0
  where
    pub file_size : ℕ
    pub before : List OtherChunk
    pub size : ℕ
    pub are : bytes ≡ file_of file_size before format size blocks []
    pub parts : AreParts asked before format blocks
    pub fits : (file_size < 2 ^ 32) × (size < 2 ^ 32)
    pub untold : is_open (no_notes false file_size) (36 + length (others_text before)) size ≡ true

-- they are one in RF64 or BW64, whose `ds64` tells the size of its data
pub record TellsALongSize (asked : Asked) (format : WaveFormat) (blocks : List (List Sample)) (bytes : List ℕ) : Type 0
  where
    pub form : ℕ
    pub file_size : ℕ
    pub before : List OtherChunk
    pub tail : List ℕ
    pub are : bytes ≡ long_file_of form file_size (length (data_text blocks)) before format blocks tail
    pub parts : AreParts asked before format blocks
    pub some : 1 ≤ length blocks
    pub long : (form ≡ RF64) ⊎ (form ≡ BW64)
    pub told : length (data_text blocks) < 2 ^ 64

-- they are a sound file that was made of these blocks, of no more bytes than are read
pub record IsMadeOf (asked : Asked) (format : WaveFormat) (blocks : List (List Sample)) (bytes : List ℕ) : Type 0 where
  pub made : TellsItsSize asked format blocks bytes ⊎ TellsNoSize asked format blocks bytes
      ⊎ TellsALongSize asked format blocks bytes
  pub within : length bytes ≤ MAX_BYTES
