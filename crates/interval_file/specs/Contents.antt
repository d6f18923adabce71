-- What a list of bytes says, read from its front: the first eight bytes one by one, the tick rate, and one interval
-- after another, up to the first of them that may not come. The grammar says the same of it (`Grammar.antt`, `Says`).
use Rattle.std.specs.Prelude.{ℕ, zero, suc, ◌+◌, List, [], ◌∷◌, ◌++◌, length, take, drop, slice_index, nat_lt, nat_le}
use Rattle.std.specs.Prelude.{◌==◌, ◌&&◌, if◌then◌else◌, Option, Some, None, Ok, Err}
use Rattle.std.specs.Option.{option_or}
use Rattle.byteorder.specs.Endian.{big_number}
use Rattle.tc_address.specs.declared.system.System.{System}
use Rattle.interval_file.specs.declared.fault.IntervalFileFault.{IntervalFileFault}
use Rattle.interval_file.specs.declared.fault.IntervalFileFault.TheVariants as fault
use Rattle.interval_file.specs.declared.header.FileVersion.{FileVersion}
use Rattle.interval_file.specs.declared.header.IntervalHeader.{IntervalHeader}
use Rattle.interval_file.specs.declared.header.TheConstants.{HEADER_LENGTH, HEAD_LENGTH}
use Rattle.limits.specs.declared.recording.TheConstants.{MAX_TICK_RATE}
use Rattle.interval_file.specs.Grammar.{Contents, file, no_header, faulty, fault_at}
use Rattle.interval_file.specs.IntervalHeader.{system_at, version_at}
use Rattle.interval_file.specs.Piece.{interval_in, piece_width}

-- ---- the header

-- the fault of the first byte that may not stand where it stands; these bytes begin at a place
abbrev pub first_wrong : ℕ → List ℕ → Option IntervalFileFault
first_wrong place [] = None
first_wrong place (byte ∷ more) = option_or (fault_at place byte) (first_wrong (place + 1) more)

-- the header of a version, a system and a tick rate, where the rate is in range
abbrev pub header_with : Option FileVersion → Option System → ℕ → Option IntervalHeader
header_with (Some version) (Some system) rate =
    if nat_le 1 rate && nat_le rate MAX_TICK_RATE
    then Some (record { version = version; system = system; tick_rate = rate })
    else None
header_with version system rate = None

-- the header that these bytes begin with
abbrev pub header_of : List ℕ → Option IntervalHeader
header_of bytes =
    header_with (version_at (slice_index bytes 4)) (system_at (slice_index bytes 5))
    (big_number 4 (drop HEAD_LENGTH bytes))

-- ---- the intervals

-- what bytes say behind a header and these intervals, where they begin at a place: of at most this many intervals more
abbrev pub contents_behind : ℕ → IntervalHeader → List ℕ → ℕ → List ℕ → Contents
contents_behind zero header intervals place bytes = file header intervals
contents_behind (suc more) header intervals place bytes =
    if length bytes == 0 then file header intervals
    else if nat_lt (length bytes) (piece_width header.version bytes)
    then faulty header intervals (fault.Truncated (place + length bytes))
    else elim (interval_in header.version place bytes) [
      | Ok x ↦
          contents_behind more header (intervals ++ x ∷ []) (place + piece_width header.version bytes)
          (drop (piece_width header.version bytes) bytes)
      | Err first ↦ faulty header intervals first
    ]

-- ---- all of it

-- what stands behind eight bytes that may stand
abbrev pub behind_head : List ℕ → Contents
behind_head bytes =
    if nat_lt (length bytes) HEADER_LENGTH then no_header (fault.Truncated (length bytes))
    else elim (header_of bytes) [
      | None ↦ no_header (fault.TickRate HEAD_LENGTH)
      | Some header ↦ contents_behind (length bytes) header [] HEADER_LENGTH (drop HEADER_LENGTH bytes)
    ]

-- what the bytes say; they have no more intervals than bytes
abbrev pub contents_of : List ℕ → Contents
contents_of bytes = elim (first_wrong 0 (take HEAD_LENGTH bytes)) [
  | Some first ↦ no_header first
  | None ↦ behind_head bytes
]
