use Rattle.std.proofs.Common.{rules}
use Rattle.tc_address.specs.KnownLabels.{labels_apart, numbered_labels}
use Rattle.tc_address.proofs.NumbersByDigits.{are_apart, are_numbered}
use Rattle.tc_address.proofs.laws.labels_follow_each_other_so.Goals as goal

-- by computing
pub returns-clause-numbers : goal.returns-clause-numbers
returns-clause-numbers c = are_numbered numbered_labels (search rules)

pub returns-clause-steps : goal.returns-clause-steps
returns-clause-steps c = are_apart labels_apart (search rules)
