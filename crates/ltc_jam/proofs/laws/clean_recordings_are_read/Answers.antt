use Rattle.ltc_jam.proofs.CleanIsRead.{clean_is_read}
use Rattle.ltc_jam.proofs.laws.clean_recordings_are_read.Goals as goal

pub returns : goal.returns
returns c = clean_is_read c.cells_of_one_length_are_shaped.ensures c.words_of_labels_are_spelled.ensures
    c.shaped_cells_are_a_chain.ensures.chain c.shaped_cells_are_a_chain.ensures.bits c.played_words_are_read.ensures
