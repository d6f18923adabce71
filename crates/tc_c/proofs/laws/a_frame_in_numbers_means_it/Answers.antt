use Rattle.tc_c.proofs.OneFrame.{frame_means}
use Rattle.tc_c.proofs.laws.a_frame_in_numbers_means_it.Goals as goal

pub returns : goal.returns
returns c = frame_means
