use Rattle.interval_file.proofs.ContentsRead.{text_read}
use Rattle.interval_file.proofs.InputIsAFile.{input_is_a_file}
use Rattle.interval_file.proofs.laws.bytes_are_read_as_the_text_says.Goals as goal

pub returns-clause-recording : goal.returns-clause-recording
returns-clause-recording c = λ bytes contents says. (text_read bytes contents says).0

pub returns-clause-fault : goal.returns-clause-fault
returns-clause-fault c = λ bytes contents says. (text_read bytes contents says).1

pub returns-clause-input : goal.returns-clause-input
returns-clause-input c = input_is_a_file
