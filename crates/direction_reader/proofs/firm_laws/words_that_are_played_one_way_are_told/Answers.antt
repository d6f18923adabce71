use Rattle.direction_reader.proofs.FirmPlayed.{one_way_told}
use Rattle.direction_reader.proofs.SyncInTime.{WordLaws}
use Rattle.direction_reader.proofs.firm_laws.words_that_are_played_one_way_are_told.Goals as goal

pub returns : goal.returns
returns c =
    let laws : WordLaws = record {
      one = c.twelve_ones_are_the_sync_word.ensures.one;
      turned = c.reversed_twice_is_the_same.ensures.bits;
      width = c.reversed_twice_is_the_same.ensures.width;
      twice = c.reversed_twice_is_the_same.ensures.twice;
    } in
    one_way_told laws c.kinds_are_as_the_cells_say.ensures (record {
      cells = c.events_are_those_that_are_spelled.ensures.cells;
      gathered = c.events_are_those_that_are_spelled.ensures.gathered;
      listed = c.events_are_those_that_are_spelled.ensures.listed;
    })
