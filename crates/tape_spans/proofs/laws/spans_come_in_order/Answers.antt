use Rattle.tape_spans.proofs.TicksInOrder.{spans_in_order}
use Rattle.tape_spans.proofs.laws.spans_come_in_order.Goals as goal

pub returns : goal.returns
returns c = spans_in_order
