use Rattle.direction_reader.proofs.FirmJudges.{firm_tape}
use Rattle.direction_reader.proofs.firm_laws.firm_events_tell_the_tape.Goals as goal

pub returns : goal.returns
returns c = firm_tape c.a_list_has_one_list_of_stretches.ensures.one
    c.a_recording_within_the_tolerance_is_one_stretch.ensures.one
