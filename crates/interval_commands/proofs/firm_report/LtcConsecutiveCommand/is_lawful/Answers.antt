use Rattle.direction_reader.specs.declared.witness.Witness.TheVariants.{Consecutive}
use Rattle.interval_commands.specs.Backed.{ByNext}
use Rattle.interval_commands.proofs.FirmlyReports.{firm_report_is_lawful}
use Rattle.interval_commands.proofs.firm_report.LtcConsecutiveCommand.is_lawful.Goals as goal

pub returns : goal.returns
returns c = λ command. firm_report_is_lawful ByNext c.recordings_grow.ensures
    (c.what_is_printed_is_in_order.ensures.firm Consecutive) c.a_list_has_one_list_of_consecutive_events.ensures.one command.profile
