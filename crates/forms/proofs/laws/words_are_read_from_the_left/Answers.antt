use Rattle.forms.proofs.FromTheLeft.{all_read, first_unread}
use Rattle.forms.proofs.laws.words_are_read_from_the_left.Goals as goal

pub returns-clause-values : goal.returns-clause-values
returns-clause-values c = all_read

pub returns-clause-fault : goal.returns-clause-fault
returns-clause-fault c = first_unread
