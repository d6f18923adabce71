use Rattle.std.proofs.Common.{◌∙◌, sym}
use Rattle.interval_file.proofs.ContentsRead.{file_read, one_recording}
use Rattle.interval_file.proofs.laws.a_file_is_read_as_it_was_written.Goals as goal

pub returns-clause-read : goal.returns-clause-read
returns-clause-read c = file_read

pub returns-clause-one_text : goal.returns-clause-one_text
returns-clause-one_text c = λ a b header intervals first second. first.are ∙ sym second.are

pub returns-clause-one_recording : goal.returns-clause-one_recording
returns-clause-one_recording c = one_recording
