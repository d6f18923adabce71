use Rattle.std.proofs.Common.{ap, ◌∙◌}
use Rattle.column_command.proofs.FieldByField.{column_cut}
use Rattle.tc_address.specs.Spelling.{label_in}
use Rattle.column_command.proofs.lengths.label_in_field.Goals as goal

-- the column is cut out of its field
pub returns-clause-value : goal.returns-clause-value
returns-clause-value c =
    c.label_in.ensures.value
    ∙ ap (label_in c.args.count) (column_cut c.args.field.now _ _ c.column_in-from.ensures.from
    c.column_in-from.ensures.count)
