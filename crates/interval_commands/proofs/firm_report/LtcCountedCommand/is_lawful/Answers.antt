use Rattle.direction_reader.specs.declared.witness.Witness.TheVariants.{Counted}
use Rattle.interval_commands.specs.Backed.{ByCount}
use Rattle.interval_commands.proofs.FirmlyReports.{firm_report_is_lawful}
use Rattle.interval_commands.proofs.firm_report.LtcCountedCommand.is_lawful.Goals as goal

pub returns : goal.returns
returns c = λ command. firm_report_is_lawful ByCount c.recordings_grow.ensures
    (c.what_is_printed_is_in_order.ensures.firm Counted) c.a_list_has_one_list_of_counted_events.ensures.one
    command.profile
