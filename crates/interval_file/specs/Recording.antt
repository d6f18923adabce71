-- What bytes say of a recording, as far as they go, to a command with a limit of intervals: the limit is the
-- command's, and no matter of the grammar.
use Rattle.std.specs.Prelude.{ℕ, ◌+◌, List, [], length, take, Option, Some, None, nat_le, if◌then◌else◌}
use Rattle.limits.specs.declared.recording.TheConstants.{MAX_INTERVALS}
use Rattle.interval_file.specs.declared.fault.IntervalFileFault.{IntervalFileFault}
use Rattle.interval_file.specs.declared.fault.IntervalFileFault.TheVariants.{Interval, Truncated}
use Rattle.interval_file.specs.declared.header.IntervalHeader.{IntervalHeader}
use Rattle.interval_file.specs.Contents.{contents_of}
use Rattle.interval_file.specs.Grammar.{Contents, file, no_header, faulty, fault_of}
use Rattle.tc_io.specs.Verdict.{Verdict, good, refused, past_limit}

-- the header where it is whole, the whole intervals before a fault and within the limit, and whether
-- the bytes have a fault or pass the limit
pub record Recording : Type 0 where
  pub header : Option IntervalHeader
  pub intervals : List ℕ
  pub verdict : Verdict IntervalFileFault

-- the verdict on bytes with this first fault, whatever follows them: bytes that end too early are good so far, since
-- more may come
abbrev pub shown : IntervalFileFault → Verdict IntervalFileFault
shown (Truncated end) = good
shown fault = refused fault

-- how many whole intervals stand at a fault: one that is out of range is whole, and counts for the limit
abbrev pub whole_in : IntervalFileFault → ℕ
whole_in (Interval first) = 1
whole_in fault = 0

-- what is read behind a header, where this many intervals are whole, also one at the end that is out of range: of these
-- in range those within the limit, and where one more is whole the bytes are past it
abbrev pub within_limit : IntervalHeader → List ℕ → ℕ → Verdict IntervalFileFault → Recording
within_limit header intervals whole verdict = record {
  header = Some header;
  intervals = take MAX_INTERVALS intervals;
  verdict = if nat_le whole MAX_INTERVALS then verdict else past_limit;
}

-- what is read of a text
abbrev pub read_of : Contents → Recording
read_of (file header intervals) = within_limit header intervals (length intervals) good
read_of (no_header fault) = record { header = None; intervals = []; verdict = shown fault }
read_of (faulty header intervals fault) =
    within_limit header intervals (length intervals + whole_in fault) (shown fault)

-- what is read of bytes
unfoldable pub recording_of : List ℕ → Recording
recording_of bytes = read_of (contents_of bytes)

-- the fault of an input that ends with these bytes, if it has one
unfoldable pub end_fault_of : List ℕ → Option IntervalFileFault
end_fault_of bytes = fault_of (contents_of bytes)
