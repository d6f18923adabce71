use Rattle.direction_reader.proofs.WindowHolds.{full_holds}
use Rattle.direction_reader.proofs.window.Full.bit.Goals as goal

pub returns-clause-holds : goal.returns-clause-holds
returns-clause-holds c = λ bits holds.
    rw c.slid.ensures.value (full_holds c.self.inside.bits bits c.args.bit (rw c.self.view_is holds))
