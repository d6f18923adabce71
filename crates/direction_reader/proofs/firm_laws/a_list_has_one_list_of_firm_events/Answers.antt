use Rattle.std.proofs.Common.{refl}
use Rattle.direction_reader.proofs.FirmJudges.{one_firm_list}
use Rattle.direction_reader.proofs.firm_laws.a_list_has_one_list_of_firm_events.Goals as goal

pub returns-clause-some : goal.returns-clause-some
returns-clause-some c = λ system profile intervals.
    let stretches = c.a_list_has_one_list_of_stretches.ensures.some profile intervals in
    (_, (stretches.0, stretches.1, refl))

pub returns-clause-one : goal.returns-clause-one
returns-clause-one c = one_firm_list c.a_list_has_one_list_of_stretches.ensures.one
