use Rattle.mtc_reader.proofs.AlongTheBytes.{along, events_after}
use Rattle.mtc_reader.proofs.laws.earlier_events_stay.Goals as goal

pub returns : goal.returns
returns c = λ before more. (events_after before more, along before more)
