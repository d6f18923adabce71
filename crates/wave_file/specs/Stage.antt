-- How far a decoder has come, and what the bytes that follow say. No promise but the decoder's clauses speaks of it.
use Rattle.std.specs.Prelude.{◌≡◌, ⊤, ◌≤◌, ℕ, ◌+◌, ◌-◌, ◌*◌, ◌/◌, ◌==◌, List, [], ◌++◌, length, Option, Some, None}
use Rattle.std.specs.Prelude.{nat_lt, nat_le, min, if◌then◌else◌}
use Rattle.wave_file.specs.declared.format.WaveFormat.{WaveFormat}
use Rattle.wave_file.specs.declared.chunk.Extent.{Extent}
use Rattle.wave_file.specs.declared.chunk.Extent.TheVariants as extent
use Rattle.wave_file.specs.declared.chunk.Notes.{Notes}
use Rattle.wave_file.specs.declared.stage.Stage.{Stage}
use Rattle.wave_file.specs.declared.stage.Stage.TheVariants.{Riff, Wave, Chunk, Format, Sizes, Data, Tail}
use Rattle.wave_file.specs.declared.stage.TheConstants.{MAX_SAMPLES}
use Rattle.wave_file.specs.Format.{IsTakenFor}
use Rattle.wave_file.specs.Wave.{Reading, chunks_at, data_at, file_at, format_at, judged_width, padded, sizes_at}
use Rattle.wave_file.specs.Wave.{wave_at}
use Rattle.tc_io.specs.Verdict.{good}
use Rattle.wave_file.specs.declared.format.Asked.{Asked}

-- no block of the data is left: this many bytes of them, and what follows
abbrev pub tail_at : WaveFormat → ℕ → List ℕ → Reading
tail_at format left bytes =
    record { format = Some format; samples = []; verdict = good; may_end = nat_le left (length bytes) }

-- what the bytes from a place on say, behind those of the stages before
abbrev pub at : Asked → Notes → ℕ → Stage → List ℕ → Reading
at asked notes place Riff bytes = file_at asked bytes
at asked notes place (Wave is_long) bytes = wave_at asked is_long bytes
at asked notes place (Chunk skip) bytes = chunks_at asked skip notes place bytes
at asked notes place (Format size) bytes =
    format_at asked notes place size (λ notes. chunks_at asked (padded size) notes place bytes) bytes
at asked notes place (Sizes size) bytes =
    sizes_at notes (λ notes. chunks_at asked (padded size) notes place bytes) bytes
at asked notes place (Data format extent room) bytes = data_at asked format extent room bytes
at asked notes place (Tail format left) bytes = tail_at format left bytes

-- the format, where the data have begun
abbrev pub format_at_stage : Stage → Option WaveFormat
format_at_stage Riff = None
format_at_stage (Wave is_long) = None
format_at_stage (Chunk skip) = None
format_at_stage (Format size) = None
format_at_stage (Sizes size) = None
format_at_stage (Data format extent room) = Some format
format_at_stage (Tail format left) = Some format

-- how many bytes the next piece has
abbrev pub width_of : Stage → ℕ
width_of Riff = 4
width_of (Wave is_long) = 8
width_of (Chunk skip) = if skip == 0 then 8 else 1
width_of (Format size) = judged_width size
width_of (Sizes size) = 16
width_of (Data format extent room) = format.block
width_of (Tail format left) = 1

-- how many of `count` bytes are data
abbrev pub data_among : Extent → ℕ → ℕ
data_among (extent.Announced n) count = min n count
data_among extent.Open count = count

-- how many of `count` bytes come up to the end of the piece; of those that belong to no piece, up to the next one; and
-- of data up to the end of the blocks that are whole, and for whose samples there is room in these places
abbrev pub up_to_end : Stage → ℕ → ℕ → ℕ
up_to_end (Chunk skip) places count = if skip == 0 then 8 else min skip count
up_to_end (Data format extent left) places count =
    min (min (data_among extent count / format.block) places) left * format.block
up_to_end (Tail format left) places count = count
up_to_end stage places count = width_of stage

-- a piece is waited for that is judged
abbrev pub IsWaiting : Stage → Type 0
IsWaiting (Chunk skip) = skip ≡ 0
IsWaiting (Data format extent room) = ⊥
IsWaiting (Tail format left) = ⊥
IsWaiting stage = ⊤

-- this many of the bytes are there
abbrev pub HasBytes : ℕ → Extent → Type 0
HasBytes count (extent.Announced left) = count ≤ left
HasBytes count extent.Open = ⊤

-- one more block is announced, or the size is not known
abbrev pub HasBlock : WaveFormat → Extent → Type 0
HasBlock format extent = HasBytes format.block extent

-- how far data go behind this many of their bytes
abbrev pub extent_behind : Extent → ℕ → Extent
extent_behind (extent.Announced left) count = extent.Announced (left - count)
extent_behind extent.Open count = extent.Open

-- the stage before data
abbrev pub data_stage : WaveFormat → Extent → ℕ → Stage
data_stage format (extent.Announced left) room =
    if nat_lt left format.block then Tail format left else Data format (extent.Announced left) room
data_stage format extent.Open room = Data format extent.Open room

-- what is kept of a stage, and the place where its piece may begin
abbrev pub IsStage : Asked → ℕ → Stage → Type 0
IsStage asked place Riff = place ≡ 0
IsStage asked place (Wave is_long) = place ≡ 4
IsStage asked place (Chunk skip) = ⊤
IsStage asked place (Format size) = 16 ≤ size
IsStage asked place (Sizes size) = 16 ≤ size
IsStage asked place (Data format extent room) = IsTakenFor asked format × HasBlock format extent × (room ≤ MAX_SAMPLES)
IsStage asked place (Tail format left) = IsTakenFor asked format

-- this many of the bytes belong to no piece, and the stage behind them is the other one
pub record IsPassed (old : Stage) (most : ℕ) (count : ℕ) (new : Stage) : Type 0 where
  pub some : 1 ≤ count
  pub within : count ≤ most
  pub format : format_at_stage new ≡ format_at_stage old
  pub stays : (asked : Asked) (place : ℕ) → IsStage asked place old → IsStage asked (place + count) new
  pub wait : 1 ≤ width_of new
  pub passes : (asked : Asked) (notes : Notes) (place : ℕ) (bytes more : List ℕ) → length bytes ≡ count
      → at asked notes place old (bytes ++ more) ≡ at asked notes (place + count) new more
