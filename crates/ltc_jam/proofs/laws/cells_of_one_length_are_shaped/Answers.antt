use Rattle.ltc_jam.proofs.Steady.{steady_is_shaped}
use Rattle.ltc_jam.proofs.laws.cells_of_one_length_are_shaped.Goals as goal

pub returns : goal.returns
returns c = λ cell bits. steady_is_shaped cell 0 bits
