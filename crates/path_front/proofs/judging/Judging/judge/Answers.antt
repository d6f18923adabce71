use Rattle.path_front.proofs.JudgingNext.{judged_after}
use Rattle.path_front.proofs.judging.Judging.judge.Goals as goal

pub returns-in-Judges-clause-gives : goal.returns-in-Judges-clause-gives
returns-in-Judges-clause-gives c =
    judged_after c.args.self.now c.cells.self c.take.new.self c.in-Judges.judged c.cells.invariant.none
    c.in-Judges.ensures.takes
