use Rattle.ltc_jam.proofs.LabelsOfSystem.{of_events, of_words}
use Rattle.ltc_jam.proofs.laws.what_is_read_has_labels_of_its_system.Goals as goal

pub returns-clause-events : goal.returns-clause-events
returns-clause-events c = λ system profile intervals events are. of_events system profile intervals events
    (c.events_are_those_that_are_spelled.ensures.gathered system profile intervals events are)

pub returns-clause-frames : goal.returns-clause-frames
returns-clause-frames c = of_words c.steps_lead_to_labels.ensures
