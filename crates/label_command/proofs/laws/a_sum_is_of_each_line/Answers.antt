use Rattle.std.proofs.Common.{refl}
use Rattle.label_text.specs.LabelText.{reading_from}
use Rattle.label_command.proofs.SumsGrow.{sum_both, sum_last}
use Rattle.label_command.proofs.laws.a_sum_is_of_each_line.Goals as goal

pub returns-clause-none : goal.returns-clause-none
unfolding reading_from
returns-clause-none c = λ base. refl

pub returns-clause-more : goal.returns-clause-more
returns-clause-more c = sum_last

pub returns-clause-both : goal.returns-clause-both
returns-clause-both c = sum_both
