use Rattle.direction_reader.proofs.EventsExist.{list_events}
use Rattle.direction_reader.proofs.laws.each_list_has_events.Goals as goal

pub returns : goal.returns
returns c = list_events c.a_list_has_one_list_of_stretches.ensures.some
