use Rattle.direction_reader.specs.declared.witness.Witness.TheVariants.{NotAsked, Asked, Consecutive, Counted}
use Rattle.direction_reader.specs.KeptReading.{reading_of_all, reading_of_consecutive, reading_of_counted}
use Rattle.direction_reader.specs.KeptReading.{reading_of_firm}
use Rattle.tape_reader.specs.declared.reader.TapeReader.TheVariants.{Plain, Firm, Joined, Counting}
use Rattle.tape_reader.proofs.OneOfFour.{same_settings}
use Rattle.tape_reader.proofs.reader.TapeReader.read.Goals as goal

pub returns-in-Plain-clause-latest : goal.returns-in-Plain-clause-latest
returns-in-Plain-clause-latest c = rw c.in-Plain.is (λ some.
    let found = c.read_on.ensures.latest some in
    (Plain found.0, found.1, same_settings NotAsked (reading_of_all c.in-Plain.reader) (reading_of_all found.0) found.2, found.3))

pub returns-in-Firm-clause-latest : goal.returns-in-Firm-clause-latest
returns-in-Firm-clause-latest c = rw c.in-Firm.is (λ some.
    let found = c.read_on-in-Firm.ensures.latest some in
    (Firm found.0, found.1, same_settings Asked (reading_of_firm c.in-Firm.reader) (reading_of_firm found.0) found.2, found.3))

pub returns-in-Joined-clause-latest : goal.returns-in-Joined-clause-latest
returns-in-Joined-clause-latest c = rw c.in-Joined.is (λ some.
    let found = c.read_on-in-Joined.ensures.latest some in
    (Joined found.0, found.1, same_settings Consecutive (reading_of_consecutive c.in-Joined.reader) (reading_of_consecutive found.0) found.2, found.3))

pub returns-in-Counting-clause-latest : goal.returns-in-Counting-clause-latest
returns-in-Counting-clause-latest c = rw c.in-Counting.is (λ some.
    let found = c.read_on-in-Counting.ensures.latest some in (
      Counting found.0,
      found.1,
      same_settings Counted (reading_of_counted c.in-Counting.reader) (reading_of_counted found.0) found.2,
      found.3,
    ))
