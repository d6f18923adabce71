use Rattle.path_front.proofs.IntervalsCover.{one_list}
use Rattle.path_front.proofs.laws.a_sound_has_one_list_of_intervals.Goals as goal

pub returns : goal.returns
returns c = one_list c.one_list_is_decided_in_all.ensures
