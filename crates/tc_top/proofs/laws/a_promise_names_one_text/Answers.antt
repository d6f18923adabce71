use Rattle.tc_top.proofs.laws.a_promise_names_one_text.Goals as goal

pub returns : goal.returns
returns c = λ job. (c.each_job_is_lawful.ensures job).pinned
