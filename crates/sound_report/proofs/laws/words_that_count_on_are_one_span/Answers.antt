use Rattle.sound_report.proofs.CountedWords.{one_span_told}
use Rattle.sound_report.proofs.laws.words_that_count_on_are_one_span.Goals as goal

pub returns : goal.returns
returns c = one_span_told c.the_next_word_fits.ensures
