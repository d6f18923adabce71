use Rattle.tc_c.proofs.OneFrame.{one_heard}
use Rattle.tc_c.proofs.laws.numbers_mean_one_heard_word.Goals as goal

pub returns : goal.returns
returns c = one_heard
