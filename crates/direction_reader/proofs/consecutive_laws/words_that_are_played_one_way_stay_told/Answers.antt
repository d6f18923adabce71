use Rattle.std.proofs.Common.{sym, None, drop, take}
use Rattle.direction_reader.specs.ListEvents.{duration}
use Rattle.direction_reader.specs.Played.{events_of_words}
use Rattle.direction_reader.proofs.NextWordLists.{stay_told}
use Rattle.direction_reader.proofs.consecutive_laws.words_that_are_played_one_way_stay_told.Goals as goal

pub returns : goal.returns
returns c = λ system profile direction cells words chain are spelled way. (
  _,
  c.words_that_are_played_one_way_are_told.ensures system profile direction cells words chain are spelled way,
  sym (stay_told None (events_of_words (duration (take 2 cells)) (drop 2 cells) words) None),
)
