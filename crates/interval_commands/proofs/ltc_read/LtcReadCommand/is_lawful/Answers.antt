use Rattle.interval_commands.proofs.ReportsTheTape.{report_is_lawful}
use Rattle.interval_commands.proofs.ltc_read.LtcReadCommand.is_lawful.Goals as goal

pub returns : goal.returns
returns c = λ command. report_is_lawful c.recordings_grow.ensures c.what_is_printed_is_in_order.ensures.report
    c.a_list_has_one_list_of_events.ensures command.profile
