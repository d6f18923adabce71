-- What bytes say of a recording grows with more bytes.
use Rattle.std.specs.Prelude.{◌≡◌, ℕ, List, ◌++◌, Some, None}
use Rattle.interval_file.specs.declared.fault.IntervalFileFault.{IntervalFileFault}
use Rattle.interval_file.specs.declared.header.IntervalHeader.{IntervalHeader}
use Rattle.interval_file.specs.Recording.{Recording, end_fault_of, recording_of}
use Rattle.tc_io.specs.Verdict.{refused, past_limit}

-- behind the same header, where there is one, the intervals come first
abbrev pub Grows : Recording → Recording → Type 0
Grows before now = (header : IntervalHeader) → before.header ≡ Some header
    → (now.header ≡ Some header) × ((more : List ℕ) × (now.intervals ≡ before.intervals ++ more))

-- what bytes say of a recording grows with more bytes, and stays as it is behind a fault and behind the limit; and of
-- an input it has a header
pub record RecordingsGrow : Type 0 where
  pub begins : (bytes : List ℕ) → end_fault_of bytes ≡ None
      → (header : IntervalHeader) × ((recording_of bytes).header ≡ Some header)
  pub grows : (front more : List ℕ) → Grows (recording_of front) (recording_of (front ++ more))
  pub refused : (front more : List ℕ) (f : IntervalFileFault) → (recording_of front).verdict ≡ refused f
      → recording_of (front ++ more) ≡ recording_of front
  pub past : (front more : List ℕ) → (recording_of front).verdict ≡ past_limit
      → recording_of (front ++ more) ≡ recording_of front
