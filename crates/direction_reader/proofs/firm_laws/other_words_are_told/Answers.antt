use Rattle.std.proofs.Common.{refl}
use Rattle.std.specs.Int.{reverse_bits_onto}
use Rattle.cell_tracker.specs.Recording.{cells_of}
use Rattle.direction_reader.specs.Firm.{firm_events_at}
use Rattle.direction_reader.specs.ListEvents.{events_of_window}
use Rattle.ltc_word.specs.Reading.{fault_in, word_in}
use Rattle.direction_reader.proofs.firm_laws.other_words_are_told.Goals as goal

pub returns-clause-first : goal.returns-clause-first
unfolding cells_of firm_events_at events_of_window fault_in word_in reverse_bits_onto
returns-clause-first c = (refl, refl)

pub returns-clause-behind : goal.returns-clause-behind
unfolding cells_of firm_events_at events_of_window fault_in word_in reverse_bits_onto
returns-clause-behind c = (refl, refl)

pub returns-clause-last : goal.returns-clause-last
unfolding cells_of firm_events_at events_of_window fault_in word_in reverse_bits_onto
returns-clause-last c = (refl, refl)

pub returns-clause-before : goal.returns-clause-before
unfolding cells_of firm_events_at events_of_window fault_in word_in reverse_bits_onto
returns-clause-before c = (refl, refl)
