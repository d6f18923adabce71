use Rattle.direction_reader.proofs.reading.FirmReaderReading.last.Goals as goal

-- none was held
pub returns-clause-all : goal.returns-clause-all
returns-clause-all c = rw c.none_held.ensures c.finish.ensures.all
