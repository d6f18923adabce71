use Rattle.std.proofs.Common.{refl}
use Rattle.direction_reader.proofs.NextWordLists.{one_list}
use Rattle.direction_reader.proofs.consecutive_laws.a_list_has_one_list_of_consecutive_events.Goals as goal

pub returns-clause-some : goal.returns-clause-some
returns-clause-some c = λ system profile intervals.
    let firm = c.a_list_has_one_list_of_firm_events.ensures.some system profile intervals in
    (_, (firm.0, firm.1, refl))

pub returns-clause-one : goal.returns-clause-one
returns-clause-one c = λ system profile intervals events others one two.
    one_list one.0 two.0 events others
    (c.a_list_has_one_list_of_firm_events.ensures.one system profile intervals one.0 two.0 one.1 two.1) one.2 two.2
