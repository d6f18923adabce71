use Rattle.luma_row.proofs.OneMore.{comes, stays}
use Rattle.luma_row.proofs.best.Best.or.Goals as goal

pub returns-then-self-sum : goal.returns-then-self-sum
returns-then-self-sum c = λ worth best is.
    comes c.args.number worth c.args.self.sum c.args.self.number c.args.sum best is c.if-self-sum.true

pub returns-else-self-sum : goal.returns-else-self-sum
returns-else-self-sum c = λ worth best is.
    stays c.args.number worth c.args.self.sum c.args.self.number c.args.sum best is c.if-self-sum.false
