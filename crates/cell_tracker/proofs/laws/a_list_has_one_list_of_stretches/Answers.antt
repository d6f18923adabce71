use Rattle.cell_tracker.proofs.Computed.{stretches_of, stretches_of-are}
use Rattle.cell_tracker.proofs.OneStretch.{stretches_are_one}
use Rattle.cell_tracker.proofs.laws.a_list_has_one_list_of_stretches.Goals as goal

pub returns-clause-some : goal.returns-clause-some
returns-clause-some c = λ profile intervals. (stretches_of profile intervals, stretches_of-are profile intervals)

pub returns-clause-one : goal.returns-clause-one
returns-clause-one c = λ profile intervals stretches others. stretches_are_one profile intervals 0 stretches others
