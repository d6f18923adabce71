-- The status of each end of a run, and its exit number.
use Rattle.std.specs.Prelude.{ℕ}
use Rattle.tc_job.specs.declared.fault.WordsFault.{WordsFault}
use Rattle.tc_job.specs.declared.fault.WordsFault.TheVariants as words
use Rattle.tc_command.specs.declared.stop.Stop.{Stop}
use Rattle.tc_command.specs.declared.stop.Stop.TheVariants as stops
use Rattle.tc_command.specs.declared.status.Status.{Status}
use Rattle.tc_command.specs.declared.status.Status.TheVariants.{Done, Usage, Refused, ReadFault, WriteFault, Memory}
use Rattle.tc_command.specs.declared.status.Status.TheVariants.{Limit}

-- the exit number of a status
abbrev pub code_of : Status → ℕ
code_of Done = 0
code_of Usage = 2
code_of Refused = 3
code_of ReadFault = 4
code_of WriteFault = 5
code_of Memory = 6
code_of Limit = 7

-- the status of a job that stopped
abbrev pub status_of : Stop → Status
status_of (stops.Refused fault) = Refused
status_of stops.ReadFault = ReadFault
status_of stops.WriteFault = WriteFault
status_of stops.Limit = Limit

-- the status of words that were not read
abbrev pub status_of_words : WordsFault → Status
status_of_words (words.Dash place) = Usage
status_of_words words.Command = Usage
status_of_words words.CountOfWords = Usage
status_of_words (words.Value place) = Usage
status_of_words (words.Memory error) = Memory
