use Rattle.direction_reader.proofs.AsLists.{as_gathered, as_list, of_windows}
use Rattle.std.proofs.Common.{◌-◌, length}
use Rattle.std.specs.List.{range_with_len}
use Rattle.direction_reader.proofs.laws.events_are_those_that_are_spelled.Goals as goal

pub returns-clause-cells : goal.returns-clause-cells
returns-clause-cells c = λ system tick cells. of_windows (record {
  word = c.what_stands_in_bits_is_what_they_spell.ensures.word;
  fault = c.what_stands_in_bits_is_what_they_spell.ensures.fault;
}) system tick cells (range_with_len 0 (length cells - 79))

pub returns-clause-gathered : goal.returns-clause-gathered
returns-clause-gathered c = as_gathered (record {
  word = c.what_stands_in_bits_is_what_they_spell.ensures.word;
  fault = c.what_stands_in_bits_is_what_they_spell.ensures.fault;
}) (record {
  word_or_fault = c.bits_in_sync_spell_a_word_or_have_a_fault.ensures;
  width = c.reversed_twice_is_the_same.ensures.width;
})

pub returns-clause-listed : goal.returns-clause-listed
returns-clause-listed c = as_list (record {
  word = c.what_stands_in_bits_is_what_they_spell.ensures.word;
  fault = c.what_stands_in_bits_is_what_they_spell.ensures.fault;
})
