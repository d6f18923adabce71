use Rattle.column_command.proofs.ColumnsAreCommand.{columns_are_command}
use Rattle.column_command.specs.AnsweredText.{along_columns}
use Rattle.tc_command.specs.ToldLemmas.{meaning_is_lawful}
use Rattle.column_command.proofs.columns.ColumnsCommand.is_lawful.Goals as goal

pub returns : goal.returns
returns c = λ command.
    meaning_is_lawful (along_columns command.run) (columns_are_command command.run) (λ input spent. spent)
