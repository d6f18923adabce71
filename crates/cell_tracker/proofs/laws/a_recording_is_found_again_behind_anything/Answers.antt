use Rattle.cell_tracker.proofs.FoundAgain.{found_again}
use Rattle.cell_tracker.proofs.laws.a_recording_is_found_again_behind_anything.Goals as goal

pub returns : goal.returns
returns c = found_again
