use Rattle.vitc_line.proofs.OneSpelling.{one_word, one_spelling, no_fault}
use Rattle.vitc_line.proofs.laws.spelling_is_exact.Goals as goal

pub returns-clause-one_word : goal.returns-clause-one_word
returns-clause-one_word c = one_word c.fields_are_exact.ensures c.digits_are_exact.ensures.one

pub returns-clause-one_spelling : goal.returns-clause-one_spelling
returns-clause-one_spelling c = one_spelling c.a_row_is_its_sum.ensures.only c.fields_are_exact.ensures

pub returns-clause-no_fault : goal.returns-clause-no_fault
returns-clause-no_fault c = no_fault c.fields_are_exact.ensures c.digits_are_exact.ensures.no_fault
