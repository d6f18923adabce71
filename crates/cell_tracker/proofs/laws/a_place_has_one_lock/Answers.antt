use Rattle.cell_tracker.proofs.OneStretch.{lock_is_one}
use Rattle.cell_tracker.proofs.laws.a_place_has_one_lock.Goals as goal

pub returns : goal.returns
returns c = lock_is_one
