use Rattle.tape_sound.proofs.BehindSilence.{SilenceLaws}
use Rattle.tape_sound.proofs.SilenceFirst.{from_start_fit, words_behind, words_behind_in_time}
use Rattle.tape_sound.proofs.WordsRead.{ReadingLaws}
use Rattle.tape_sound.proofs.laws.a_silence_before_the_tape_costs_no_word.Goals as goal

pub returns-clause-words : goal.returns-clause-words
returns-clause-words c =
    let silence : SilenceLaws = record {
      one = c.a_recording_within_the_tolerance_is_one_stretch.ensures.one;
      alike = c.a_list_has_one_list_of_events.ensures;
      tell = c.events_tell_the_tape.ensures;
    } in
    let laws : ReadingLaws =
    record { read = c.played_words_are_read.ensures; one = c.a_list_has_one_list_of_events.ensures } in
    words_behind silence laws c.the_first_distance_leads_to_the_first_crossing.ensures

pub returns-clause-on_time : goal.returns-clause-on_time
returns-clause-on_time c =
    let silence : SilenceLaws = record {
      one = c.a_recording_within_the_tolerance_is_one_stretch.ensures.one;
      alike = c.a_list_has_one_list_of_events.ensures;
      tell = c.events_tell_the_tape.ensures;
    } in
    let laws : ReadingLaws =
    record { read = c.played_words_are_read.ensures; one = c.a_list_has_one_list_of_events.ensures } in
    words_behind_in_time silence laws c.the_first_distance_leads_to_the_first_crossing.ensures

pub returns-clause-fit : goal.returns-clause-fit
returns-clause-fit c = from_start_fit c.the_first_distance_leads_to_the_first_crossing.ensures
