use Rattle.std.proofs.Common.{◌∙◌, rules}
use Rattle.forms.proofs.Numbers.{read_number}
use Rattle.forms.proofs.number.number_spelled.Goals as goal

pub returns-then-is_number : goal.returns-then-is_number
returns-then-is_number c = c.ok.ensures.value ∙ read_number c.args.word.now c.parse.result (search rules)
    c.parse.ensures.value.0
