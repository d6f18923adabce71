use Rattle.std.specs.Prelude.{reverse}
use Rattle.tc_address.specs.declared.direction.Direction.TheVariants.{Forward, Backward}
use Rattle.mtc_reader.specs.Laws.{numbers_of}
use Rattle.mtc_reader.proofs.Runs.{backward_sent, forward_sent, half_after, whole_after}
use Rattle.mtc_reader.proofs.laws.a_run_is_read_back.Goals as goal

pub returns-clause-forward : goal.returns-clause-forward
returns-clause-forward c = whole_after Forward numbers_of forward_sent

pub returns-clause-forward_half : goal.returns-clause-forward_half
returns-clause-forward_half c = half_after Forward numbers_of forward_sent

pub returns-clause-backward : goal.returns-clause-backward
returns-clause-backward c = whole_after Backward (λ a. reverse (numbers_of a)) backward_sent

pub returns-clause-backward_half : goal.returns-clause-backward_half
returns-clause-backward_half c = half_after Backward (λ a. reverse (numbers_of a)) backward_sent
