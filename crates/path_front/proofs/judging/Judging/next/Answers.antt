use Rattle.path_front.proofs.JudgingNext.{judged_if}
use Rattle.path_front.proofs.judging.Judging.next.Goals as goal

pub returns-in-None-clause-gives : goal.returns-in-None-clause-gives
returns-in-None-clause-gives c =
    judged_if c.args.self.now c.judge.new.self c.drain.new.self c.drain.result c.in-None.ensures.none
    c.drain.ensures.gives
