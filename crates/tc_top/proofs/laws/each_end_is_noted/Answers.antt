use Rattle.tc_top.proofs.laws.each_end_is_noted.Goals as goal

pub returns-clause-usage : goal.returns-clause-usage
returns-clause-usage c = λ words e is. (is.0, is.1, is.2.note, is.2.pulled, is.2.written)

pub returns-clause-refused : goal.returns-clause-refused
returns-clause-refused c = λ job e is. (is.0, is.1.note)

pub returns-clause-done : goal.returns-clause-done
returns-clause-done c = λ job e is. is.note
