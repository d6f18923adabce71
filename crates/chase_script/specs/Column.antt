-- The numbers of the columns of a script.
use Rattle.std.specs.Prelude.{ℕ}
use Rattle.chase_script.specs.declared.column.Column.{Column}
use Rattle.chase_script.specs.declared.column.Column.TheVariants.{Fields, Command, Target, Master, Direction, Slip}

-- columns are counted from 1, and a wrong number of fields is told as 0
abbrev pub number_of_column : Column → ℕ
number_of_column Fields = 0
number_of_column Command = 1
number_of_column Target = 2
number_of_column Master = 3
number_of_column Direction = 4
number_of_column Slip = 5
