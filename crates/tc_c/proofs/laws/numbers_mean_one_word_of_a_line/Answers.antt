use Rattle.tc_c.proofs.OneWord.{one_line_word}
use Rattle.tc_c.proofs.laws.numbers_mean_one_word_of_a_line.Goals as goal

pub returns : goal.returns
returns c = one_line_word
