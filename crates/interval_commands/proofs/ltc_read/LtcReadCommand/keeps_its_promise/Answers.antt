use Rattle.interval_commands.proofs.ReportsTheTape.{report_is_kept}
use Rattle.interval_commands.proofs.ltc_read.LtcReadCommand.keeps_its_promise.Goals as goal

pub returns : goal.returns
returns c = report_is_kept (record {
  truth = c.events_tell_the_tape.ensures;
  damage = c.events_find_the_tape_again.ensures;
  rough_damage = c.events_find_the_tape_behind_even_ones.ensures;
  mirror = c.events_mirror_the_tape.ensures;
}) c.args.self.now.profile
