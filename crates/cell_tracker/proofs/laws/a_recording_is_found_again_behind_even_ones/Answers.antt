use Rattle.cell_tracker.proofs.FoundBehindOnes.{found_behind_ones}
use Rattle.cell_tracker.proofs.laws.a_recording_is_found_again_behind_even_ones.Goals as goal

pub returns : goal.returns
returns c = found_behind_ones
