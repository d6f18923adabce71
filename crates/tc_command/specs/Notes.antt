-- The note of each status but Done: one line.
use Rattle.std.specs.Prelude.{ℕ, List, ◌++◌, codes, decimal}
use Rattle.tc_command.specs.InputFault.{fault_text}
use Rattle.tc_job.specs.declared.fault.WordsFault.{WordsFault}
use Rattle.tc_job.specs.declared.fault.WordsFault.TheVariants as words
use Rattle.tc_command.specs.declared.stop.Stop.{Stop}
use Rattle.tc_command.specs.declared.stop.Stop.TheVariants.{Refused, ReadFault, WriteFault, Limit}

-- why a job stopped: the fault of the input and where it stands, or the cause alone
abbrev pub stop_note : Stop → List ℕ
stop_note (Refused fault) = codes "tc: refused: " ++ fault_text fault ++ codes "\n"
stop_note ReadFault = codes "tc: read fault\n"
stop_note WriteFault = codes "tc: write fault\n"
stop_note Limit = codes "tc: limit\n"

-- the first fault of the words, or want of memory
abbrev pub usage_note : WordsFault → List ℕ
usage_note (words.Dash place) = codes "tc: usage: dash in word " ++ decimal place ++ codes "\n"
usage_note words.Command = codes "tc: usage: command\n"
usage_note words.CountOfWords = codes "tc: usage: count of words\n"
usage_note (words.Value place) = codes "tc: usage: value of word " ++ decimal place ++ codes "\n"
usage_note (words.Memory error) = codes "tc: out of memory\n"
