use Rattle.interval_file.proofs.RecordingsGrow.{recordings_grow}
use Rattle.interval_file.proofs.laws.recordings_grow.Goals as goal

pub returns : goal.returns
returns c = recordings_grow
