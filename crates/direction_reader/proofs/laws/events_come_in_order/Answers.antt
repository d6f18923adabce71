use Rattle.direction_reader.proofs.InOrder.{in_order}
use Rattle.direction_reader.proofs.laws.events_come_in_order.Goals as goal

pub returns : goal.returns
returns c = in_order
