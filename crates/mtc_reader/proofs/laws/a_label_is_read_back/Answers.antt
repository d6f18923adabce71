use Rattle.std.specs.Prelude.{reverse}
use Rattle.tc_address.specs.declared.direction.Direction.TheVariants.{Forward, Backward}
use Rattle.mtc_reader.specs.Laws.{numbers_of}
use Rattle.mtc_reader.proofs.ReadBack.{full_message_back}
use Rattle.mtc_reader.proofs.Runs.{backward_sent, forward_sent, label_back}
use Rattle.mtc_reader.proofs.laws.a_label_is_read_back.Goals as goal

pub returns-clause-full : goal.returns-clause-full
returns-clause-full c = λ device label small is. full_message_back device label small is

pub returns-clause-forward : goal.returns-clause-forward
returns-clause-forward c = label_back Forward numbers_of forward_sent

pub returns-clause-backward : goal.returns-clause-backward
returns-clause-backward c = label_back Backward (λ a. reverse (numbers_of a)) backward_sent
