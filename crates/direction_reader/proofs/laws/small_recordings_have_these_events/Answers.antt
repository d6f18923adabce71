use Rattle.biphase.specs.declared.profile.Profile.TheVariants.{Normal}
use Rattle.tc_address.specs.declared.system.System.TheVariants.{F25}
use Rattle.direction_reader.proofs.Examples.{forward, broken, half, backward, both, two}
use Rattle.direction_reader.proofs.laws.small_recordings_have_these_events.Goals as goal

pub returns-clause-forward : goal.returns-clause-forward
returns-clause-forward c =
    c.events_are_those_that_are_spelled.ensures.listed F25 Normal _ _
    (forward c.words_of_round_labels.ensures.zero_at_25 c.small_recordings_have_these_stretches.ensures.word)

pub returns-clause-broken : goal.returns-clause-broken
returns-clause-broken c =
    c.events_are_those_that_are_spelled.ensures.listed F25 Normal _ _
    (broken c.words_of_round_labels.ensures.zero_at_25 c.small_recordings_have_these_stretches.ensures.broken)

pub returns-clause-half : goal.returns-clause-half
returns-clause-half c =
    c.events_are_those_that_are_spelled.ensures.listed F25 Normal _ _
    (half c.words_of_round_labels.ensures.zero_at_25 c.small_recordings_have_these_stretches.ensures.half)

pub returns-clause-backward : goal.returns-clause-backward
returns-clause-backward c =
    c.events_are_those_that_are_spelled.ensures.listed F25 Normal _ _
    (backward c.words_of_round_labels.ensures.zero_at_25 c.small_recordings_have_these_stretches.ensures.from_its_end)

pub returns-clause-both : goal.returns-clause-both
returns-clause-both c =
    c.events_are_those_that_are_spelled.ensures.listed F25 Normal _ _
    (both c.small_recordings_have_these_stretches.ensures.both)

pub returns-clause-two : goal.returns-clause-two
returns-clause-two c =
    c.events_are_those_that_are_spelled.ensures.listed F25 Normal _ _
    (two c.small_recordings_have_these_stretches.ensures.two)
