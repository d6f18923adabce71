use Rattle.signal_commands.proofs.SoundCovered.{sound_is_kept}
use Rattle.signal_commands.proofs.pcm_ltc.PcmLtcCommand.keeps_its_promise.Goals as goal

pub returns : goal.returns
returns c =
    sound_is_kept c.intervals_tell_the_crossings.ensures c.bytes_are_those_of_their_samples.ensures c.args.self.now.slicing
    c.fineness-fineness.ensures.valid
