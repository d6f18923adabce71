use Rattle.mtc_reader.proofs.CarriedEvents.{among, carried, sounding_whole}
use Rattle.mtc_reader.proofs.laws.messages_carry_the_events.Goals as goal

pub returns-clause-places : goal.returns-clause-places
returns-clause-places c = carried

pub returns-clause-among : goal.returns-clause-among
returns-clause-among c = among

pub returns-clause-whole : goal.returns-clause-whole
returns-clause-whole c = sounding_whole
