use Rattle.std.proofs.Common.{length, ◌-◌, ◌≡◌, ◌+◌, ◌≤◌, drop}
use Rattle.std.specs.List.{prefix_len}
use Rattle.label_columns.specs.Columns.{is_blank}
use Rattle.label_columns.proofs.fields.blanks_before.Given as goal

-- those so far are blanks
abbrev pub invariant-bytes : goal.invariant-bytes
invariant-bytes l = record {
  all : prefix_len is_blank l.bytes ≡ l.at + prefix_len is_blank (drop l.at l.bytes);
  within : l.at ≤ length l.bytes;
}

abbrev pub decreases-bytes : goal.decreases-bytes
decreases-bytes l = length l.bytes - l.at
