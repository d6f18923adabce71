use Rattle.std.proofs.Common.{refl}
use Rattle.column_command.proofs.LineGoesOn.{begins}
use Rattle.column_command.proofs.columns.ColumnAnswers.new.Goals as goal

pub returns-clause-stands : goal.returns-clause-stands
returns-clause-stands c = begins _ refl c.new.ensures refl
