use Rattle.tc_address.proofs.NumbersByDigits.{number_by_digits}
use Rattle.tc_address.proofs.laws.a_label_has_its_number_by_its_digits.Goals as goal

pub returns : goal.returns
returns c = number_by_digits
