use Rattle.flywheel.proofs.BoundedInvention.{marked, heard}
use Rattle.flywheel.proofs.laws.invention_is_bounded_and_marked.Goals as goal

pub returns-clause-marked : goal.returns-clause-marked
returns-clause-marked c = λ limit last words. marked limit words last

pub returns-clause-heard : goal.returns-clause-heard
returns-clause-heard c = λ limit last words. heard limit words last
