use Rattle.std.proofs.Common.{ap, length, ◌∙◌}
use Rattle.std.proofs.lemmas.List.{length-map}
use Rattle.column_command.proofs.LineByLine.{text_line_by_line}
use Rattle.column_command.proofs.OneColumn.{answers_are_lines}
use Rattle.column_command.proofs.OnlyColumns.{line_changes}
use Rattle.column_command.specs.AnsweredText.{answered_part, lines_of}
use Rattle.label_columns.specs.Parts.{Part}
use Rattle.column_command.proofs.laws.lines_in_lines_out.Goals as goal

pub returns : goal.returns
returns c =
    let lines = text_line_by_line (answers_are_lines (record {
      text = c.texts_and_answers_are_lines.ensures.text;
      answer = c.texts_and_answers_are_lines.ensures.answer;
      whole = c.lines_are_answered_one_by_one.ensures.whole;
    })) (λ run line. line_changes run c.parts_are_the_bytes.ensures line) in
    record {
      lines = lines;
      count = λ run text.
          ap (length {A = Part}) (lines run text) ∙ length-map (lines_of text) (answered_part run);
    }
