use Rattle.std.proofs.Common.{length, ◌≡◌, ◌≤◌, take}
use Rattle.label_columns.specs.Columns.{up_to_last}
use Rattle.label_columns.proofs.fields.up_to_last.Given as goal

-- those behind are blanks
abbrev pub invariant-blanks : goal.invariant-blanks
invariant-blanks l = record {
  all : up_to_last l.bytes ≡ up_to_last (take l.end l.bytes);
  within : l.end ≤ length l.bytes;
}

abbrev pub decreases-blanks : goal.decreases-blanks
decreases-blanks l = l.end
