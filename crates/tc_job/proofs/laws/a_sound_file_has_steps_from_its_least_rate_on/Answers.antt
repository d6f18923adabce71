use Rattle.tc_job.proofs.EachRate.{none_below, sound_from}
use Rattle.tc_job.proofs.laws.a_sound_file_has_steps_from_its_least_rate_on.Goals as goal

pub returns-clause-from : goal.returns-clause-from
returns-clause-from c = sound_from

pub returns-clause-below : goal.returns-clause-below
returns-clause-below c = none_below
