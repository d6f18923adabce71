use Rattle.std.proofs.Common.{ap}
use Rattle.signal_commands.specs.declared.path_sound.PathWords.TheVariants.{Raw}
use Rattle.signal_commands.specs.KeptPath.{path_kind}
use Rattle.signal_commands.proofs.RawOn.{raw_begins}
use Rattle.signal_commands.proofs.pcm_path.PcmPathCommand.work.Goals as goal

-- the listener has begun
pub begun-listening-requires-clause-hears : goal.begun-listening-requires-clause-hears
begun-listening-requires-clause-hears g c =
    let b = c.begin-listener in
    (b.result.1, raw_begins path_kind (Raw c.args.self.now.path) b.result.0 b.result.1 b.ensures)

-- and wrote the header
pub read-requires-clause-new : goal.read-requires-clause-new
read-requires-clause-new g c =
    let b = c.begin-listener in
    c.begun-listening.ensures.stands b.result.1
    (raw_begins path_kind (Raw c.args.self.now.path) b.result.0 b.result.1 b.ensures)

-- the choice of the engine is that of the words
pub returns : goal.returns
returns g c = c.read.ensures _ (ap (λ words. (_, words)) c.begun-listening.ensures.words)
