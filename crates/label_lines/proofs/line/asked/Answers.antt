use Rattle.std.proofs.Common.{◌∙◌, sym}
use Rattle.label_lines.proofs.Choices.{label_is_asked}
use Rattle.label_lines.proofs.line.asked.Goals as goal

-- the line is neither a number nor seconds
pub returns-else-is_seconds-clause-value : goal.returns-else-is_seconds-clause-value
returns-else-is_seconds-clause-value c =
    let label = label_is_asked c.args.base c.args.line.now (sym c.is_number.ensures ∙ c.if-is_number.false)
    (sym c.is_seconds.ensures ∙ c.if-is_seconds.false) in
    rw c.count-count.ensures at c.label_in.ensures.value ∙ sym label
