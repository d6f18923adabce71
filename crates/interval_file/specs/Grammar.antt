-- The interval file as a whole text: a header, and then the bytes of each interval, one after another. And what any
-- list of bytes says: it is a file, or it has a first fault. Its pieces are the first eight bytes one by one, the tick
-- rate, and each interval. The first whole piece that may not come is the fault; if there is none, and the bytes
-- end before byte 12 or inside an interval, the text is truncated.
use Rattle.std.specs.Prelude.{◌≡◌, ⊤, ◌≤◌, ◌<◌, ℕ, ◌+◌, List, [], ◌∷◌, ◌++◌, length, take, drop, slice_index, Bool}
use Rattle.std.specs.Prelude.{true, false, Option, Some, None}
use Rattle.std.specs.Option.{is_none}
use Rattle.std.specs.Prelude.{is_some, nat_lt, ◌==◌, if◌then◌else◌}
use Rattle.std.specs.List.{flat_map}
use Rattle.byteorder.specs.Endian.{big_number}
use Rattle.limits.specs.declared.recording.TheConstants.{MAX_INTERVAL}
use Rattle.interval_file.specs.declared.fault.IntervalFileFault.{IntervalFileFault}
use Rattle.interval_file.specs.declared.fault.IntervalFileFault.TheVariants.{Magic, Version, System, Reserved, TickRate}
use Rattle.interval_file.specs.declared.fault.IntervalFileFault.TheVariants.{Interval, Truncated}
use Rattle.interval_file.specs.declared.header.FileVersion.{FileVersion}
use Rattle.interval_file.specs.declared.header.IntervalHeader.{IntervalHeader}
use Rattle.interval_file.specs.declared.header.TheConstants.{MAGIC, HEADER_LENGTH, HEAD_LENGTH}
use Rattle.interval_file.specs.IntervalHeader.{IsTickRate, header_bytes, system_at, version_at}
use Rattle.interval_file.specs.Piece.{least_in, ticks_in, piece_width, spelling}

-- ---- a file

-- the bytes of intervals, one after another
abbrev pub intervals_bytes : FileVersion → List ℕ → List ℕ
intervals_bytes version intervals = flat_map (spelling version) intervals

-- the bytes of the file of a recording
abbrev pub file_of : IntervalHeader → List ℕ → List ℕ
file_of header intervals = header_bytes header ++ intervals_bytes header.version intervals

-- each interval is in range
abbrev pub AreIntervals : List ℕ → Type 0
AreIntervals [] = ⊤
AreIntervals (x ∷ more) = (1 ≤ x) × (x ≤ MAX_INTERVAL) × AreIntervals more

-- the bytes are the interval file of this header and these intervals
pub record IsFile (bytes : List ℕ) (header : IntervalHeader) (intervals : List ℕ) : Type 0 where
  pub tick_rate : IsTickRate header.tick_rate
  pub range : AreIntervals intervals
  pub are : bytes ≡ file_of header intervals

-- ---- a fault in the header

-- the fault, where what is asked for does not hold
abbrev pub fault_unless : Bool → IntervalFileFault → Option IntervalFileFault
fault_unless holds fault = if holds then None else Some fault

-- the fault of a byte that may not stand where it stands, at one of the first eight places
abbrev pub fault_at : ℕ → ℕ → Option IntervalFileFault
fault_at place byte =
    if nat_lt place 4 then fault_unless (byte == slice_index MAGIC place) (Magic place)
    else if place == 4 then fault_unless (is_some (version_at byte)) (Version place)
    else if place == 5 then fault_unless (is_some (system_at byte)) (System place)
    else fault_unless (byte == 0) (Reserved place)

-- whether a byte may stand at one of the first eight places
abbrev pub may_stand : ℕ → ℕ → Bool
may_stand place byte = is_none (fault_at place byte)

-- each of these bytes may stand where it stands, the first one at this place
abbrev pub MayStand : ℕ → List ℕ → Type 0
MayStand place [] = ⊤
MayStand place (byte ∷ more) = (may_stand place byte ≡ true) × MayStand (place + 1) more

-- the byte at a place is the first that may not stand where it stands
pub record IsFirstWrong (place : ℕ) (bytes : List ℕ) : Type 0 where
  pub there : place < length bytes
  pub wrong : may_stand place (slice_index bytes place) ≡ false
  pub before : MayStand 0 (take place bytes)

-- the first eight bytes may stand; the tick rate behind them is whole, and out of range
pub record IsWrongRate (bytes : List ℕ) : Type 0 where
  pub whole : HEADER_LENGTH ≤ length bytes
  pub wrong : ¬ IsTickRate (big_number 4 (drop HEAD_LENGTH bytes))
  pub before : MayStand 0 (take HEAD_LENGTH bytes)

-- the bytes end before the header is whole; those of the first eight that are there may stand
pub record EndsInHeader (bytes : List ℕ) : Type 0 where
  pub short : length bytes < HEADER_LENGTH
  pub before : MayStand 0 (take HEAD_LENGTH bytes)

-- the first fault of bytes without a whole and good header
abbrev pub IsHeaderFault : IntervalFileFault → List ℕ → Type 0
IsHeaderFault (Magic place) bytes = (place < 4) × IsFirstWrong place bytes
IsHeaderFault (Version place) bytes = (place ≡ 4) × IsFirstWrong place bytes
IsHeaderFault (System place) bytes = (place ≡ 5) × IsFirstWrong place bytes
IsHeaderFault (Reserved place) bytes = (6 ≤ place) × (place < HEAD_LENGTH) × IsFirstWrong place bytes
IsHeaderFault (TickRate place) bytes = (place ≡ HEAD_LENGTH) × IsWrongRate bytes
IsHeaderFault (Interval place) bytes = ⊥
IsHeaderFault (Truncated place) bytes = (place ≡ length bytes) × EndsInHeader bytes

-- ---- a fault behind the header

-- the number in these bytes may be an interval that is spelled so
abbrev pub InRange : FileVersion → List ℕ → Type 0
InRange version bytes = (least_in version bytes ≤ ticks_in version bytes) × (ticks_in version bytes ≤ MAX_INTERVAL)

-- the fault of the bytes behind the header and whole intervals, the first of which stands at a place: their first
-- interval is whole and out of range, or they end inside it
abbrev pub IsRestFault : FileVersion → ℕ → List ℕ → IntervalFileFault → Type 0
IsRestFault version place rest (Interval first) =
    (first ≡ place) × (piece_width version rest ≤ length rest) × ¬ InRange version rest
IsRestFault version place rest (Truncated end) =
    (end ≡ place + length rest) × (0 < length rest) × (length rest < piece_width version rest)
IsRestFault version place rest _ = ⊥

-- the bytes begin with the file of this header and these intervals, and behind it stands their first fault
pub record IsFaulty (bytes : List ℕ) (header : IntervalHeader) (intervals : List ℕ)
    (fault : IntervalFileFault) : Type 0 where
  pub front : List ℕ
  pub rest : List ℕ
  pub are : bytes ≡ front ++ rest
  pub file : IsFile front header intervals
  pub fails : IsRestFault header.version (length front) rest fault

-- ---- any list of bytes

-- what bytes say: a file, by its header and its intervals; a fault, and no header before it; or a header, intervals,
-- and a fault behind them
pub data Contents : Type 0 where
  file : IntervalHeader → List ℕ → Contents
  no_header : IntervalFileFault → Contents
  faulty : IntervalHeader → List ℕ → IntervalFileFault → Contents

-- bytes say this: they are such a file, or have such a fault
abbrev pub Says : Contents → List ℕ → Type 0
Says (file header intervals) bytes = IsFile bytes header intervals
Says (no_header fault) bytes = IsHeaderFault fault bytes
Says (faulty header intervals fault) bytes = IsFaulty bytes header intervals fault

-- the first fault, where there is one
abbrev pub fault_of : Contents → Option IntervalFileFault
fault_of (file header intervals) = None
fault_of (no_header fault) = Some fault
fault_of (faulty header intervals fault) = Some fault
