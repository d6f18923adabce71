use Rattle.tc_c.proofs.OneFrame.{one_frame}
use Rattle.tc_c.proofs.laws.numbers_mean_one_frame.Goals as goal

pub returns : goal.returns
returns c = one_frame
