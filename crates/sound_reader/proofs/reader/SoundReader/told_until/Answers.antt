use Rattle.sound_reader.proofs.reader.SoundReader.told_until.Goals as goal

pub returns-clause-later : goal.returns-clause-later
returns-clause-later c = rw c.tick.ensures.value rw (← c.self.view_is)
    (c.what_is_told_later_ends_later.ensures.later _ c.self.invariant.range)
