use Rattle.direction_reader.proofs.OneListOfEvents.{one_list_of_events}
use Rattle.direction_reader.proofs.laws.a_list_has_one_list_of_events.Goals as goal

pub returns : goal.returns
returns c = one_list_of_events c.a_list_has_one_list_of_stretches.ensures.one
