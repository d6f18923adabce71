use Rattle.std.proofs.Common.{rules}
use Rattle.mtc_reader.proofs.PackedRow.{one_more}
use Rattle.mtc_reader.proofs.eight.EightQuarters.next.Goals as goal

-- the others move up
pub returns : goal.returns
returns c = λ row long is. rw c.from.ensures
    (one_more c.args.self.first c.args.self.last c.args.quarter row (search rules) (search rules) long is)
