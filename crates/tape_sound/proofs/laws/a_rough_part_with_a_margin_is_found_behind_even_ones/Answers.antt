use Rattle.tape_sound.proofs.PartIsFound.{part_is_found_behind_ones}
use Rattle.tape_sound.proofs.laws.a_rough_part_with_a_margin_is_found_behind_even_ones.Goals as goal

pub returns : goal.returns
returns c = part_is_found_behind_ones c.events_find_the_tape_behind_even_ones.ensures
