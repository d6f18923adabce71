use Rattle.ltc_jam.proofs.LabelsOfSystem.{step_valid}
use Rattle.ltc_jam.proofs.laws.steps_lead_to_labels.Goals as goal

pub returns : goal.returns
returns c = step_valid c.number_and_label_are_inverse.ensures.number
