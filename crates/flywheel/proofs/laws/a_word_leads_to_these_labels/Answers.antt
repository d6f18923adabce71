use Rattle.tc_address.specs.KnownLabels.{labels_apart}
use Rattle.flywheel.proofs.BothWays.{both_ways}
use Rattle.flywheel.proofs.laws.a_word_leads_to_these_labels.Goals as goal

pub returns : goal.returns
returns c = both_ways labels_apart (c.labels_follow_each_other_so.ensures.steps)
