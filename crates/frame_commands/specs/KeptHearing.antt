-- A reading as what hears the words of a recording: those that are not alone. No promise speaks of it.
use Rattle.std.specs.Prelude.{◌≡◌, List}
use Rattle.direction_reader.specs.declared.firm_event.FirmEvent.{FirmEvent}
use Rattle.direction_reader.specs.declared.witness.Witness as reader
use Rattle.direction_reader.specs.declared.witness.Witness.TheVariants as asked
use Rattle.direction_reader.specs.Reading.{ReadingState}
use Rattle.tc_job.specs.declared.witness.Witness.{Witness}
use Rattle.tc_job.specs.declared.witness.Witness.TheVariants.{NotAsked, Asked, Consecutive, Counted}
use Rattle.frame_commands.specs.Heard.{told_events}
use Rattle.frame_commands.specs.Hearing.{Hearer}

-- what words are asked for, as a job says it
abbrev pub asked_as : reader.Witness → Witness
asked_as asked.NotAsked = NotAsked
asked_as asked.Asked = Asked
asked_as asked.Consecutive = Consecutive
asked_as asked.Counted = Counted

-- it tells what the reading tells, without the words that are alone
abbrev pub hearer_of : ReadingState → Hearer
hearer_of r = record {
  system = r.system;
  profile = r.profile;
  count = r.count;
  tick = r.tick;
  until = r.until;
  stands = λ intervals events. (told : List FirmEvent) × r.stands intervals told × (events ≡ told_events told);
}
