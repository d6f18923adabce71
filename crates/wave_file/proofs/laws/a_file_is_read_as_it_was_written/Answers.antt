use Rattle.wave_file.proofs.WrittenFiles.{made_file}
use Rattle.wave_file.proofs.laws.a_file_is_read_as_it_was_written.Goals as goal

pub returns : goal.returns
returns c = made_file
