use Rattle.std.proofs.Common.{length, arith}
use Rattle.mtc_reader.proofs.HaveMessages.{have_messages}
use Rattle.mtc_reader.proofs.OneListOfMessages.{one_list}
use Rattle.mtc_reader.proofs.laws.bytes_are_one_list_of_messages.Goals as goal

pub returns-clause-some : goal.returns-clause-some
returns-clause-some c = λ bytes. have_messages (length bytes) bytes (omega arith)

pub returns-clause-one : goal.returns-clause-one
returns-clause-one c = one_list
