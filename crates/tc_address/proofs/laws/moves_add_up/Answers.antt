use Rattle.tc_address.proofs.AroundTheDay.{moved-add}
use Rattle.tc_address.proofs.laws.moves_add_up.Goals as goal

pub returns : goal.returns
returns c = moved-add
