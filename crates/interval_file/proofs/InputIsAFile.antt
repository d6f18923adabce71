-- If the verdict is good and the input may end, the bytes are a file within the limit.
use Rattle.std.proofs.Common.{◌≡◌, ℕ, ◌≤◌, List, length, None, refl, Bool, true, false}
use Rattle.std.specs.Prelude.{nat_le, if◌then◌else◌}
use Rattle.std.proofs.lemmas.Bool.{leb-true}
use Rattle.limits.specs.declared.recording.TheConstants.{MAX_INTERVALS}
use Rattle.interval_file.specs.declared.fault.IntervalFileFault.{IntervalFileFault}
use Rattle.interval_file.specs.declared.header.IntervalHeader.{IntervalHeader}
use Rattle.interval_file.specs.Contents.{contents_of}
use Rattle.tc_io.specs.Bytes.{AreBytes}
use Rattle.interval_file.specs.Grammar.{Contents, IsFile, Says, fault_of, faulty, file, no_header}
use Rattle.interval_file.specs.Recording.{end_fault_of, read_of, recording_of}
use Rattle.tc_io.specs.Verdict.{Verdict, good, past_limit}
use Rattle.interval_file.proofs.ContentsRead.{they_say_it}

abbrev IsWithin : List ℕ → Type 0
IsWithin bytes = (header : IntervalHeader) × (intervals : List ℕ) × IsFile bytes header intervals
    × (length intervals ≤ MAX_INTERVALS)

below : (n : ℕ) (within : Bool) → nat_le n MAX_INTERVALS ≡ within
    → if◌then◌else◌ {A = Verdict IntervalFileFault} within good past_limit ≡ good → n ≤ MAX_INTERVALS
below n true e is = leb-true n MAX_INTERVALS e
below n false e is = (cc)

by_contents : (bytes : List ℕ) (contents : Contents) → Says contents bytes → (read_of contents).verdict ≡ good
    → fault_of contents ≡ None → IsWithin bytes
by_contents bytes (file header intervals) says verdict none =
    (header, intervals, says, below (length intervals) (nat_le (length intervals) MAX_INTERVALS) refl verdict)
by_contents bytes (no_header first) says verdict none = (cc)
by_contents bytes (faulty header intervals first) says verdict none = (cc)

pub input_is_a_file : (bytes : List ℕ) → AreBytes bytes → (recording_of bytes).verdict ≡ good
    → end_fault_of bytes ≡ None → IsWithin bytes
unfolding recording_of end_fault_of
input_is_a_file bytes are verdict none = by_contents bytes (contents_of bytes) (they_say_it bytes are) verdict none
