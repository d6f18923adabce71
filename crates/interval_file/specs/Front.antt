-- What bytes from the front of a file begin with: a header, the fault of one, or too few bytes to tell.
use Rattle.std.specs.Prelude.{◌≡◌, ◌≤◌, ℕ, List, [], length, take, Option, Some, None, Result, Ok, Err}
use Rattle.interval_file.specs.declared.fault.IntervalFileFault.{IntervalFileFault}
use Rattle.interval_file.specs.declared.fault.IntervalFileFault.TheVariants.{Truncated}
use Rattle.interval_file.specs.declared.header.IntervalHeader.{IntervalHeader}
use Rattle.interval_file.specs.declared.header.TheConstants.{HEADER_LENGTH}
use Rattle.interval_file.specs.Grammar.{IsFile, IsHeaderFault}
use Rattle.interval_file.specs.Recording.{shown}
use Rattle.tc_io.specs.Verdict.{refused}

-- a header, whose bytes are a file without intervals; nothing, if more may come and the bytes end in the header; or a
-- fault, whatever comes
abbrev pub BeginAs : List ℕ → Result (Option IntervalHeader) IntervalFileFault → Type 0
BeginAs bytes (Ok (Some header)) = (HEADER_LENGTH ≤ length bytes) × IsFile (take HEADER_LENGTH bytes) header []
BeginAs bytes (Ok None) = IsHeaderFault (Truncated (length bytes)) bytes
BeginAs bytes (Err fault) = IsHeaderFault fault bytes × (shown fault ≡ refused fault)
