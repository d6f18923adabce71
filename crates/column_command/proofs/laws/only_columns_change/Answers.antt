use Rattle.column_command.proofs.OnlyColumns.{any_line_changes}
use Rattle.column_command.proofs.laws.only_columns_change.Goals as goal

pub returns : goal.returns
returns c = λ run line. any_line_changes run c.parts_are_the_bytes.ensures line
