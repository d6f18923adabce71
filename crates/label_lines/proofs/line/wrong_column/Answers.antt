use Rattle.std.proofs.Common.{◌∙◌, sym}
use Rattle.label_lines.proofs.Choices.{part_is_wrong}
use Rattle.label_lines.proofs.line.wrong_column.Goals as goal

-- the line has the form of a label
pub returns-then-has_label_form : goal.returns-then-has_label_form
returns-then-has_label_form c =
    let part = part_is_wrong c.args.count c.args.line.now (sym c.is_number.ensures ∙ c.if-is_number.false)
    (sym c.is_seconds.ensures ∙ c.if-is_seconds.false) (sym c.has_label_form.ensures.value ∙ c.if-has_label_form.true)
    in
    c.part_column.ensures c.args.count ∙ sym part
