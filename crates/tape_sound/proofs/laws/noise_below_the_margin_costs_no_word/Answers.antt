use Rattle.tape_sound.proofs.WordsRead.{distances_fit, words_in_time, words_read}
use Rattle.tape_sound.proofs.laws.noise_below_the_margin_costs_no_word.Goals as goal

pub returns-clause-words : goal.returns-clause-words
returns-clause-words c = words_read
    (record { read = c.played_words_are_read.ensures; one = c.a_list_has_one_list_of_events.ensures })

pub returns-clause-on_time : goal.returns-clause-on_time
returns-clause-on_time c = words_in_time
    (record { read = c.played_words_are_read.ensures; one = c.a_list_has_one_list_of_events.ensures })

pub returns-clause-fit : goal.returns-clause-fit
returns-clause-fit c = distances_fit
