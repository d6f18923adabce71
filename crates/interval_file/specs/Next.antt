-- The interval at the front of bytes, and what it brings to a file that ends before them.
use Rattle.std.specs.Prelude.{◌≡◌, ◌⊎◌, ◌≤◌, ◌<◌, ℕ, ◌+◌, List, [], ◌∷◌, ◌++◌, length, take, nat_le, Result, Ok, Err}
use Rattle.std.specs.Prelude.{if◌then◌else◌}
use Rattle.limits.specs.declared.recording.TheConstants.{MAX_INTERVAL}
use Rattle.interval_file.specs.declared.fault.IntervalFileFault.{IntervalFileFault}
use Rattle.interval_file.specs.declared.fault.IntervalFileFault.TheVariants as fault
use Rattle.interval_file.specs.declared.header.FileVersion.{FileVersion}
use Rattle.interval_file.specs.declared.header.IntervalHeader.{IntervalHeader}
use Rattle.interval_file.specs.declared.piece.Next.{Next}
use Rattle.interval_file.specs.declared.piece.Next.TheVariants.{Short, Interval, Fault}
use Rattle.interval_file.specs.Grammar.{IsFaulty, IsFile}
use Rattle.interval_file.specs.Piece.{interval_in, piece_width}

-- an interval of this many bytes, or its fault
abbrev pub next_with : ℕ → Result ℕ IntervalFileFault → Next
next_with width (Ok x) = Interval x width
next_with width (Err first) = Fault first

-- the interval that begins at a place with these bytes, where all its bytes are there
abbrev pub next_of : FileVersion → ℕ → List ℕ → Next
next_of version place bytes =
    if nat_le (piece_width version bytes) (length bytes)
    then next_with (piece_width version bytes) (interval_in version place bytes)
    else Short

-- how many bytes it has, and its range; the fault of one out of range is where it begins
abbrev pub IsNext : FileVersion → ℕ → List ℕ → Next → Type 0
IsNext version place bytes Short = length bytes < piece_width version bytes
IsNext version place bytes (Interval x width) =
    (1 ≤ x) × (x ≤ MAX_INTERVAL) × (2 ≤ width) × (width ≤ 6) × (width ≤ length bytes)
IsNext version place bytes (Fault first) = first ≡ fault.Interval place

-- what more bytes bring that stand behind the file of this header and these intervals: no whole interval, as they are
-- none or end inside one; an interval and its number of bytes; or one that is out of range
abbrev pub BringNext : List ℕ → IntervalHeader → List ℕ → List ℕ → Next → Type 0
BringNext front header intervals bytes Short =
    (bytes ≡ []) ⊎ IsFaulty (front ++ bytes) header intervals (fault.Truncated (length front + length bytes))
BringNext front header intervals bytes (Interval x width) =
    (width ≤ length bytes) × IsFile (front ++ take width bytes) header (intervals ++ x ∷ [])
BringNext front header intervals bytes (Fault first) = IsFaulty (front ++ bytes) header intervals first
