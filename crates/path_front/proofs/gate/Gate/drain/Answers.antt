use Rattle.std.proofs.Common.{[]}
use Rattle.path_front.proofs.GateJudges.{none_behind}
use Rattle.path_front.proofs.gate.Gate.drain.Goals as goal

pub returns-else-is_empty-clause-judges : goal.returns-else-is_empty-clause-judges
returns-else-is_empty-clause-judges c = λ judged stand.
    c.judge.ensures.judges judged [] (none_behind c.args.self.now.ahead c.requires.room) stand
