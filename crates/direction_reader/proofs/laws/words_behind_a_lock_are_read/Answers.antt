use Rattle.std.proofs.Common.{take, drop}
use Rattle.biphase.specs.Chain.{flat}
use Rattle.direction_reader.specs.ListEvents.{duration}
use Rattle.direction_reader.specs.Played.{events_of_words}
use Rattle.direction_reader.proofs.SyncInTime.{WordLaws}
use Rattle.direction_reader.proofs.WordsAreRead.{locked_words_are_read}
use Rattle.direction_reader.proofs.laws.words_behind_a_lock_are_read.Goals as goal

pub returns : goal.returns
returns c =
    let laws : WordLaws = record {
      one = c.twelve_ones_are_the_sync_word.ensures.one;
      turned = c.reversed_twice_is_the_same.ensures.bits;
      width = c.reversed_twice_is_the_same.ensures.width;
      twice = c.reversed_twice_is_the_same.ensures.twice;
    } in
    λ system profile cells words follow lock are spelled.
    c.events_are_those_that_are_spelled.ensures.listed system profile (flat cells)
    (events_of_words (duration (take 2 cells)) (drop 2 cells) words)
    (locked_words_are_read laws system profile cells words follow lock are spelled)
