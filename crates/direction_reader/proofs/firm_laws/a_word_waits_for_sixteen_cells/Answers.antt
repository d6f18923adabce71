use Rattle.std.proofs.Common.{refl}
use Rattle.std.specs.Int.{reverse_bits_onto}
use Rattle.cell_tracker.specs.Recording.{cells_of}
use Rattle.direction_reader.specs.FirmKnown.{sights_at}
use Rattle.direction_reader.specs.ListEvents.{events_of_window}
use Rattle.ltc_word.specs.Reading.{fault_in, word_in}
use Rattle.direction_reader.proofs.firm_laws.a_word_waits_for_sixteen_cells.Goals as goal

pub returns-clause-fifteen : goal.returns-clause-fifteen
unfolding cells_of sights_at events_of_window fault_in word_in reverse_bits_onto
returns-clause-fifteen c = refl

pub returns-clause-its_tick : goal.returns-clause-its_tick
unfolding cells_of sights_at events_of_window fault_in word_in reverse_bits_onto
returns-clause-its_tick c = refl

pub returns-clause-sixteen : goal.returns-clause-sixteen
unfolding cells_of sights_at events_of_window fault_in word_in reverse_bits_onto
returns-clause-sixteen c = refl

pub returns-clause-any_tick : goal.returns-clause-any_tick
unfolding cells_of sights_at events_of_window fault_in word_in reverse_bits_onto
returns-clause-any_tick c = refl
