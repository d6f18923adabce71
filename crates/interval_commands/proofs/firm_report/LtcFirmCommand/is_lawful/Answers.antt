use Rattle.direction_reader.specs.declared.witness.Witness.TheVariants.{Asked}
use Rattle.interval_commands.specs.Backed.{ByWitness}
use Rattle.interval_commands.proofs.FirmlyReports.{firm_report_is_lawful}
use Rattle.interval_commands.proofs.firm_report.LtcFirmCommand.is_lawful.Goals as goal

pub returns : goal.returns
returns c = λ command. firm_report_is_lawful ByWitness c.recordings_grow.ensures
    (c.what_is_printed_is_in_order.ensures.firm Asked) c.a_list_has_one_list_of_firm_events.ensures.one command.profile
