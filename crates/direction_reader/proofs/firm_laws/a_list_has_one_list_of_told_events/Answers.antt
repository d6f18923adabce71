use Rattle.std.proofs.Common.{refl}
use Rattle.direction_reader.proofs.KnownOfLists.{one_told}
use Rattle.direction_reader.proofs.firm_laws.a_list_has_one_list_of_told_events.Goals as goal

pub returns-clause-some : goal.returns-clause-some
returns-clause-some c = λ system profile intervals.
    let ss = c.a_list_has_one_list_of_stretches.ensures.some profile intervals in (_, _, (ss.0, ss.1, refl, refl))

pub returns-clause-one : goal.returns-clause-one
returns-clause-one c = one_told c.a_list_has_one_list_of_stretches.ensures.one
