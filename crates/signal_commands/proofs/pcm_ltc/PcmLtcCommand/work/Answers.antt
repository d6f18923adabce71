use Rattle.std.proofs.Common.{ap}
use Rattle.signal_commands.specs.declared.sliced.Cut.TheVariants.{Raw}
use Rattle.signal_commands.specs.KeptSliced.{sliced_kind}
use Rattle.signal_commands.proofs.RawOn.{raw_begins}
use Rattle.signal_commands.proofs.pcm_ltc.PcmLtcCommand.work.Goals as goal

-- the listener has begun
pub begun-listening-requires-clause-hears : goal.begun-listening-requires-clause-hears
begun-listening-requires-clause-hears g c =
    let b = c.begin-listener in
    (b.result.1, raw_begins sliced_kind (Raw c.args.self.now.slicing) b.result.0 b.result.1 b.ensures)

-- and wrote the header
pub read-requires-clause-new : goal.read-requires-clause-new
read-requires-clause-new g c =
    let b = c.begin-listener in
    c.begun-listening.ensures.stands b.result.1
    (raw_begins sliced_kind (Raw c.args.self.now.slicing) b.result.0 b.result.1 b.ensures)

-- the choice of the engine is that of the words
pub returns : goal.returns
returns g c = c.read.ensures _ (ap (λ words. (_, words)) c.begun-listening.ensures.words)
