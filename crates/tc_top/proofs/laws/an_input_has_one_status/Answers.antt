use Rattle.tc_command.specs.StatusLemmas.{by_file, one_status}
use Rattle.tc_top.specs.Commands.{meaning_of}
use Rattle.tc_top.proofs.laws.an_input_has_one_status.Goals as goal

pub returns-clause-one : goal.returns-clause-one
returns-clause-one c = λ job input a b x y. one_status (meaning_of job) input a b x y

pub returns-clause-file : goal.returns-clause-file
returns-clause-file c = λ job input status none is.
    by_file (meaning_of job) input status ((c.each_job_is_lawful.ensures job).unlimited none input) is
