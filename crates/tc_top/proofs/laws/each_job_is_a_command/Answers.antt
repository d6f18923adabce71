use Rattle.tc_top.proofs.laws.each_job_is_a_command.Goals as goal

pub returns : goal.returns
returns c = λ job. (c.each_job_is_lawful.ensures job).command
