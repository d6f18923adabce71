use Rattle.ltc_word.proofs.OneBitMore.{spelled}
use Rattle.ltc_word.proofs.laws.each_word_has_its_spelling.Goals as goal

pub returns : goal.returns
returns c = spelled c.a_row_is_its_sum.ensures.holds c.fields_are_exact.ensures
