use Rattle.std.proofs.Common.{ap, Option}
use Rattle.direction_reader.specs.declared.firm_event.FirmEvent.{FirmEvent}
use Rattle.direction_reader.specs.ConsecutiveTold.{held_of, until_held}
use Rattle.direction_reader.specs.FirmReader.{told_until}
use Rattle.direction_reader.proofs.consecutive_laws.a_reader_has_told_what_its_list_tells.Goals as goal

pub returns : goal.returns
returns c = λ reader intervals told stands. (
  stands.firm,
  told_until reader.reader,
  c.a_reader_has_told_what_no_further_interval_changes.ensures reader.reader intervals stands.firm stands.reader,
  stands.all,
  ap (λ (o : Option FirmEvent). until_held (told_until reader.reader) (held_of o)) stands.latest,
)
