-- What is read of a file within the limit, of one past it, and of bytes with a fault behind it.
use Rattle.std.proofs.Common.{◌≡◌, ℕ, ◌+◌, ◌<◌, ◌≤◌, List, length, take, Some, refl, ◌∙◌, arith}
use Rattle.std.proofs.lemmas.Bool.{le-leb, lt-leb}
use Rattle.std.proofs.lemmas.List.{take_all}
use Rattle.limits.specs.declared.recording.TheConstants.{MAX_INTERVALS}
use Rattle.interval_file.specs.declared.fault.IntervalFileFault.{IntervalFileFault}
use Rattle.interval_file.specs.declared.header.IntervalHeader.{IntervalHeader}
use Rattle.interval_file.specs.Grammar.{Contents, IsFaulty, IsFile, Says, faulty, file}
use Rattle.interval_file.specs.Recording.{Recording, read_of, recording_of, shown, whole_in}
use Rattle.tc_io.specs.Verdict.{past_limit}
use Rattle.interval_engine.specs.KeptAlong.{good_recording}

-- what bytes say is what is read of them
abbrev pub ReadAsSaid : Type 0
ReadAsSaid = (bytes : List ℕ) (contents : Contents) → Says contents bytes → recording_of bytes ≡ read_of contents

pub file_is : ReadAsSaid → (bytes : List ℕ) (header : IntervalHeader) (intervals : List ℕ)
    → IsFile bytes header intervals → length intervals ≤ MAX_INTERVALS
    → recording_of bytes ≡ good_recording header intervals
file_is said bytes header intervals is few =
    said bytes (file header intervals) is
    ∙ rw (take_all MAX_INTERVALS intervals few, le-leb (length intervals) MAX_INTERVALS few) refl

pub faulty_is : ReadAsSaid → (bytes : List ℕ) (header : IntervalHeader) (intervals : List ℕ)
    (first : IntervalFileFault) → IsFaulty bytes header intervals first
    → length intervals + whole_in first ≤ MAX_INTERVALS
    → recording_of bytes ≡ record { header = Some header; intervals = intervals; verdict = shown first }
faulty_is said bytes header intervals first is few =
    said bytes (faulty header intervals first) is
    ∙ rw (
      take_all MAX_INTERVALS intervals (omega (arith, few)),
      le-leb (length intervals + whole_in first) MAX_INTERVALS few,
    ) refl

-- past the limit
abbrev pub over : IntervalHeader → List ℕ → Recording
over header intervals =
    record { header = Some header; intervals = take MAX_INTERVALS intervals; verdict = past_limit }

pub long_is : ReadAsSaid → (bytes : List ℕ) (header : IntervalHeader) (intervals : List ℕ)
    → IsFile bytes header intervals → MAX_INTERVALS < length intervals
    → recording_of bytes ≡ over header intervals
long_is said bytes header intervals is many =
    said bytes (file header intervals) is ∙ rw (lt-leb (length intervals) MAX_INTERVALS many) refl

pub long_fault_is : ReadAsSaid → (bytes : List ℕ) (header : IntervalHeader) (intervals : List ℕ)
    (first : IntervalFileFault) → IsFaulty bytes header intervals first
    → MAX_INTERVALS < length intervals + whole_in first
    → recording_of bytes ≡ over header intervals
long_fault_is said bytes header intervals first is many =
    said bytes (faulty header intervals first) is
    ∙ rw (lt-leb (length intervals + whole_in first) MAX_INTERVALS many) refl
