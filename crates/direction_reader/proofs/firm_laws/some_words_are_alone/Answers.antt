use Rattle.std.proofs.Common.{refl}
use Rattle.std.specs.Int.{reverse_bits_onto}
use Rattle.cell_tracker.specs.Recording.{cells_of}
use Rattle.direction_reader.specs.Firm.{firm_events_at}
use Rattle.direction_reader.specs.ListEvents.{events_of_window}
use Rattle.ltc_word.specs.Reading.{fault_in, word_in}
use Rattle.direction_reader.proofs.firm_laws.some_words_are_alone.Goals as goal

pub returns-clause-forward : goal.returns-clause-forward
unfolding cells_of firm_events_at events_of_window fault_in word_in reverse_bits_onto
returns-clause-forward c = refl

pub returns-clause-backward : goal.returns-clause-backward
unfolding cells_of firm_events_at events_of_window fault_in word_in reverse_bits_onto
returns-clause-backward c = refl

pub returns-clause-turned : goal.returns-clause-turned
unfolding cells_of firm_events_at events_of_window fault_in word_in reverse_bits_onto
returns-clause-turned c = refl
