use Rattle.line_file.proofs.FileReadBack.{file_read}
use Rattle.line_file.proofs.laws.a_file_is_read_as_it_was_written.Goals as goal

pub returns : goal.returns
returns c = λ header fields valid are few. file_read header fields valid are few
