-- A command that reads an interval file: what it writes is a matter of the header and the intervals. The grammar and
-- the limit are those of the file, for all of them.
use Rattle.std.specs.Prelude.{◌≡◌, ℕ, true, List, [], IsSomeAnd, MatchOption}
use Rattle.std.specs.Option.{option_map}
use Rattle.interval_file.specs.declared.header.IntervalHeader.{IntervalHeader}
use Rattle.interval_file.specs.Recording.{Recording, recording_of, end_fault_of}
use Rattle.tc_command.specs.declared.input_fault.InputFault.TheVariants.{Intervals}
use Rattle.tc_command.specs.Meaning.{Meaning}
use Rattle.tc_io.specs.Verdict.{verdict_as}

-- what a command that reads an interval file writes, by its header and its intervals
pub record Printing : Type 1 where
  -- the header and these intervals pass a limit of the command's own
  pub spent : IntervalHeader → List ℕ → Type 0
  -- what is written behind the header and these intervals, before their end
  pub part : IntervalHeader → List ℕ → List ℕ → Type 0
  -- what is written of a whole recording
  pub whole : IntervalHeader → List ℕ → List ℕ → Type 0

-- what is written of a recording before its end: nothing before the header is whole
abbrev pub IsPartOf : Printing → Recording → List ℕ → Type 0
IsPartOf p r written = MatchOption r.header (written ≡ []) (λ header. p.part header r.intervals written)

-- what is written of a whole recording, which has a header
abbrev pub IsWholeOf : Printing → Recording → List ℕ → Type 0
IsWholeOf p r written = IsSomeAnd r.header (λ header. p.whole header r.intervals written)

-- what is read of the recording passes a limit of the command's own; nothing does before the header is whole
abbrev pub IsSpentOf : Printing → Recording → Type 0
IsSpentOf p r = IsSomeAnd r.header (λ header. p.spent header r.intervals)

-- what such a command takes and writes: its bytes are an interval file, within the limit of one
abbrev pub along_intervals : Printing → Meaning
along_intervals p = record {
  reads = true;
  verdict = λ bytes. verdict_as Intervals (recording_of bytes).verdict;
  end_fault = λ bytes. option_map Intervals (end_fault_of bytes);
  spent = λ bytes. IsSpentOf p (recording_of bytes);
  part = λ bytes written. IsPartOf p (recording_of bytes) written;
  output = λ bytes written. IsWholeOf p (recording_of bytes) written;
}
