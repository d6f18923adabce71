use Rattle.tape_sound.proofs.NeededParts.{comes_back, dips, louder_before, reaches_too_late}
use Rattle.tape_sound.proofs.laws.each_part_of_a_margin_is_needed.Goals as goal

pub returns-clause-dips : goal.returns-clause-dips
returns-clause-dips c = dips

pub returns-clause-comes_back : goal.returns-clause-comes_back
returns-clause-comes_back c = comes_back

pub returns-clause-slow : goal.returns-clause-slow
returns-clause-slow c = reaches_too_late

pub returns-clause-louder_before : goal.returns-clause-louder_before
returns-clause-louder_before c = louder_before
