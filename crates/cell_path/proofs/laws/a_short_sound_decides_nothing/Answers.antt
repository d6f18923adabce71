use Rattle.cell_path.proofs.OneDecision.{nothing_yet}
use Rattle.cell_path.proofs.laws.a_short_sound_decides_nothing.Goals as goal

pub returns : goal.returns
returns c = nothing_yet
