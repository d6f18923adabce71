use Rattle.direction_reader.proofs.CountedSlots.{one_comes}
use Rattle.direction_reader.proofs.counting.Counting.hear_one.Goals as goal

-- it lies within the ticks, and none of its own comes first
pub returns-clause-brings : goal.returns-clause-brings
returns-clause-brings c = λ n s held is.
    rw c.told_of.ensures (one_comes n s c.args.self.now c.args.event c.take-given.result.held c.take-given.result.own
    c.take-given.ensures.held c.take-given.ensures.own held is)
