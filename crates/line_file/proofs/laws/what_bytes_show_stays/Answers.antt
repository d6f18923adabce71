use Rattle.line_file.proofs.FieldByField.{reading_stays, refused_not_good, past_not_good}
use Rattle.line_file.proofs.laws.what_bytes_show_stays.Goals as goal

pub returns-clause-fault : goal.returns-clause-fault
returns-clause-fault c = λ bytes more f e. reading_stays bytes more _ (refused_not_good f) e

pub returns-clause-limit : goal.returns-clause-limit
returns-clause-limit c = λ bytes more e. reading_stays bytes more _ past_not_good e
