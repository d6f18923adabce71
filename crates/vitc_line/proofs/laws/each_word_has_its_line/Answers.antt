use Rattle.vitc_line.proofs.LineOfAWord.{line_odd, line_spells}
use Rattle.vitc_line.proofs.laws.each_word_has_its_line.Goals as goal

pub returns-clause-spells : goal.returns-clause-spells
returns-clause-spells c = line_spells c.a_row_is_its_sum.ensures.holds c.fields_are_exact.ensures

pub returns-clause-width : goal.returns-clause-width
returns-clause-width c =
    λ word valid eight. (line_spells c.a_row_is_its_sum.ensures.holds c.fields_are_exact.ensures word valid eight).width

pub returns-clause-odd : goal.returns-clause-odd
returns-clause-odd c = line_odd c.a_row_is_its_sum.ensures.holds c.fields_are_exact.ensures
