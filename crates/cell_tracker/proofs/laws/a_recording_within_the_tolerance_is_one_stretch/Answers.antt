use Rattle.cell_tracker.proofs.KeptStretch.{kept_is_one_stretch, chains_agree}
use Rattle.cell_tracker.proofs.laws.a_recording_within_the_tolerance_is_one_stretch.Goals as goal

pub returns-clause-one : goal.returns-clause-one
returns-clause-one c = kept_is_one_stretch

pub returns-clause-agree : goal.returns-clause-agree
returns-clause-agree c = chains_agree
