use Rattle.std.proofs.Common.{◌-◌, ◌≤◌, take}
use Rattle.label_command.specs.TextLines.{IsLine}
use Rattle.column_command.proofs.columns.line_length.Given as goal

-- there is no newline among those so far
abbrev pub invariant-bytes : goal.invariant-bytes
invariant-bytes l = record { within : l.at ≤ l.most; line : IsLine (take l.at l.bytes) }

abbrev pub decreases-bytes : goal.decreases-bytes
decreases-bytes l = l.most - l.at
