use Rattle.tc_address.proofs.AroundTheDay.{one_shortest}
use Rattle.tc_address.proofs.laws.one_way_is_shortest.Goals as goal

pub returns : goal.returns
returns c = one_shortest
