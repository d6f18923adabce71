use Rattle.interval_commands.proofs.ToldOfCopies.{conversion_is_kept}
use Rattle.interval_commands.proofs.ltc_convert.LtcConvertCommand.keeps_its_promise.Goals as goal

pub returns : goal.returns
returns c = conversion_is_kept c.converting_keeps_the_recording.ensures.output c.args.self.now.version
