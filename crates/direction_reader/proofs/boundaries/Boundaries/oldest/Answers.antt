use Rattle.std.proofs.Common.{sym}
use Rattle.direction_reader.proofs.WrittenOver.{latest_oldest}
use Rattle.direction_reader.proofs.boundaries.Boundaries.oldest.Goals as goal

-- it is 175 places behind the next one, round the ring
pub returns : goal.returns
returns c = rw (← c.self.view_is) (sym (latest_oldest c.self.inside.ring c.self.inside.next c.self.invariant.0
    c.self.invariant.1))
