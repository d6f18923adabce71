use Rattle.std.proofs.Common.{sym}
use Rattle.direction_reader.proofs.CountedNeighbours.{none_alone}
use Rattle.direction_reader.proofs.counted_laws.words_that_count_on_are_told.Goals as goal

pub returns-clause-list : goal.returns-clause-list
returns-clause-list c = none_alone

pub returns-clause-played : goal.returns-clause-played
returns-clause-played c = λ system profile cells words chain are spelled on. (
  _,
  c.played_words_are_read.ensures system profile cells words chain are spelled,
  sym (none_alone _ on),
)
