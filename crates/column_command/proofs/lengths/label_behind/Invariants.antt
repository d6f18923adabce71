use Rattle.std.proofs.Common.{◌≡◌, ◌≤◌, ◌-◌, length, drop, slice_get}
use Rattle.column_command.proofs.ColumnBehind.{columns_from}
use Rattle.column_command.proofs.lengths.label_behind.Given as goal

-- the column is behind so many of the columns from here on
abbrev pub invariant-fields : goal.invariant-fields
invariant-fields l = record {
  within : l.at ≤ length l.fields;
  same : slice_get (columns_from l.parting l.fields) l.others
      ≡ slice_get (columns_from l.parting (drop l.at l.fields)) l.left;
}

abbrev pub decreases-fields : goal.decreases-fields
decreases-fields l = length l.fields - l.at
