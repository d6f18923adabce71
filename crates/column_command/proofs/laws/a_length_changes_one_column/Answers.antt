use Rattle.column_command.proofs.OneLength.{changed_line, length_line, kept_line}
use Rattle.column_command.proofs.laws.a_length_changes_one_column.Goals as goal

pub returns : goal.returns
returns c =
    let whole = c.parts_are_the_bytes.ensures in
    record {
      answers = λ run line. changed_line run whole line;
      length = λ run line first. length_line run whole line first;
      none = λ run line. kept_line run line;
    }
