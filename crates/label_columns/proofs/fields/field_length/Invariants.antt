use Rattle.std.proofs.Common.{length, ◌-◌, ◌≡◌, ◌+◌, ◌≤◌, drop}
use Rattle.std.specs.List.{position_or_len}
use Rattle.label_columns.specs.Columns.{ends_field}
use Rattle.label_columns.proofs.fields.field_length.Given as goal

-- none of those so far ends a field
abbrev pub invariant-bytes : goal.invariant-bytes
invariant-bytes l = record {
  all : position_or_len (ends_field l.parting) l.bytes
      ≡ l.at + position_or_len (ends_field l.parting) (drop l.at l.bytes);
  within : l.at ≤ length l.bytes;
}

abbrev pub decreases-bytes : goal.decreases-bytes
decreases-bytes l = length l.bytes - l.at
