use Rattle.direction_reader.proofs.NextWordLists.{are_backed}
use Rattle.direction_reader.proofs.consecutive_laws.each_word_has_its_witness_or_its_next_word.Goals as goal

pub returns : goal.returns
returns c = λ system profile intervals events are. are_backed system profile intervals are.0 events
    (c.each_word_that_is_told_has_its_witness.ensures.list system profile intervals are.0 are.1) are.2
