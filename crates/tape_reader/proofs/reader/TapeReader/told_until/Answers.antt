use Rattle.tape_reader.specs.declared.reader.TapeReader.TheVariants.{Plain, Firm, Joined}
use Rattle.tape_reader.proofs.reader.TapeReader.told_until.Goals as goal

pub returns-in-Plain-clause-later : goal.returns-in-Plain-clause-later
returns-in-Plain-clause-later c = rw c.in-Plain.is rw c.until.ensures.value
    (c.what_is_told_of_a_tape_comes_first.ensures.later (Plain c.in-Plain.reader))

pub returns-in-Firm-clause-later : goal.returns-in-Firm-clause-later
returns-in-Firm-clause-later c = rw c.in-Firm.is rw c.until-in-Firm.ensures.value
    (c.what_is_told_of_a_tape_comes_first.ensures.later (Firm c.in-Firm.reader))

pub returns-in-Joined-clause-later : goal.returns-in-Joined-clause-later
returns-in-Joined-clause-later c = rw c.in-Joined.is rw c.until-in-Joined.ensures.value
    (c.what_is_told_of_a_tape_comes_first.ensures.later (Joined c.in-Joined.reader))
