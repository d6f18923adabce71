use Rattle.label_text.specs.LabelText.{reading_of, start}
use Rattle.label_text.proofs.InOrder.{good_goes_on, limit_not_good, not_good, stopped_stays}
use Rattle.label_text.proofs.laws.bytes_are_read_in_order.Goals as goal

pub returns-clause-good : goal.returns-clause-good
returns-clause-good c = λ base front more is. good_goes_on (start base) front more is

pub returns-clause-refused : goal.returns-clause-refused
returns-clause-refused c = λ base front more fault is.
    stopped_stays (start base) front more (not_good (reading_of base front).verdict fault is)

pub returns-clause-past_limit : goal.returns-clause-past_limit
returns-clause-past_limit c = λ base front more is.
    stopped_stays (start base) front more (limit_not_good (reading_of base front).verdict is)
