use Rattle.direction_reader.proofs.KnownByReader.{reader_told}
use Rattle.direction_reader.proofs.firm_laws.a_reader_has_told_what_no_further_interval_changes.Goals as goal

pub returns : goal.returns
returns c = reader_told
