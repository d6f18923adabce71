use Rattle.std.proofs.Common.{◌++◌}
use Rattle.signal_commands.proofs.PathEnds.{whole_is}
use Rattle.signal_commands.proofs.path_sound.PathSoundListener.finish.Goals as goal

pub returns : goal.returns
returns g c = λ words format samples written hears.
    let w = c.end.ensures.ends samples written hears.hears in
    (w.0, w.1, whole_is words format c.args.self.now.path samples (written ++ w.0) hears.path w.2)
