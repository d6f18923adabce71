use Rattle.ltc_jam.proofs.WordOfLabel.{word_spelled}
use Rattle.ltc_jam.proofs.laws.words_of_labels_are_spelled.Goals as goal

pub returns : goal.returns
returns c = word_spelled c.each_word_has_its_spelling.ensures
