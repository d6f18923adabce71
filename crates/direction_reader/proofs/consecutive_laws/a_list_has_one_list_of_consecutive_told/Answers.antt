use Rattle.direction_reader.proofs.NextWordFronts.{one_told, some_told}
use Rattle.direction_reader.proofs.consecutive_laws.a_list_has_one_list_of_consecutive_told.Goals as goal

pub returns-clause-some : goal.returns-clause-some
returns-clause-some c = λ system profile intervals.
    let firm = c.a_list_has_one_list_of_told_events.ensures.some system profile intervals in
    some_told system profile intervals firm.0 firm.1 firm.2

pub returns-clause-one : goal.returns-clause-one
returns-clause-one c = λ system profile intervals told others until another one two.
    let same = c.a_list_has_one_list_of_told_events.ensures.one system profile intervals one.0 two.0 one.1 two.1 one.2
    two.2 in
    one_told one.0 two.0 told others one.1 two.1 until another same.0 same.1 one.3 one.4 two.3 two.4
