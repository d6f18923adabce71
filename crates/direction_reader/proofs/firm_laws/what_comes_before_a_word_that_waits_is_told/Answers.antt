use Rattle.direction_reader.proofs.OneWaits.{none_waiting, one_waits}
use Rattle.direction_reader.proofs.SyncInTime.{WordLaws}
use Rattle.direction_reader.proofs.firm_laws.what_comes_before_a_word_that_waits_is_told.Goals as goal

pub returns-clause-all : goal.returns-clause-all
returns-clause-all c = none_waiting

pub returns-clause-before : goal.returns-clause-before
returns-clause-before c =
    let laws : WordLaws = record {
      one = c.twelve_ones_are_the_sync_word.ensures.one;
      turned = c.reversed_twice_is_the_same.ensures.bits;
      width = c.reversed_twice_is_the_same.ensures.width;
      twice = c.reversed_twice_is_the_same.ensures.twice;
    } in
    one_waits laws
