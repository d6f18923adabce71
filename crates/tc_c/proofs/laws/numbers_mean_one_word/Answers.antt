use Rattle.tc_c.proofs.OneWord.{one_word}
use Rattle.tc_c.proofs.laws.numbers_mean_one_word.Goals as goal

pub returns : goal.returns
returns c = one_word
