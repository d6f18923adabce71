use Rattle.interval_file.proofs.ContentsRead.{one_answer, they_say_it}
use Rattle.interval_file.proofs.laws.each_list_of_bytes_says_one_thing.Goals as goal

pub returns-clause-some : goal.returns-clause-some
returns-clause-some c = they_say_it

pub returns-clause-one : goal.returns-clause-one
returns-clause-one c = one_answer
