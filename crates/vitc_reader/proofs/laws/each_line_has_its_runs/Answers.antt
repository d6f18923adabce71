use Rattle.vitc_reader.proofs.RunsOfBits.{may_be_line, stand}
use Rattle.vitc_reader.proofs.laws.each_line_has_its_runs.Goals as goal

pub returns-clause-line : goal.returns-clause-line
returns-clause-line c = λ n bits valid width odd. may_be_line n bits width odd

pub returns-clause-stand : goal.returns-clause-stand
returns-clause-stand c = λ n bits valid width odd. stand n bits valid.0 width odd
