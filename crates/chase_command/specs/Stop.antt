-- How a chase that stopped ends: its status and its note.
use Rattle.std.specs.Prelude.{ℕ, List, ◌++◌, codes, decimal}
use Rattle.chase_script.specs.Column.{number_of_column}
use Rattle.tc_command.specs.declared.status.Status.{Status}
use Rattle.tc_command.specs.declared.status.Status.TheVariants as status
use Rattle.chase_command.specs.declared.stop.ChaseStop.{ChaseStop}
use Rattle.chase_command.specs.declared.stop.ChaseStop.TheVariants.{Refused, ReadFault, WriteFault, Memory, Limit}

-- the first refused row of a script and its least refused column, or the cause alone
abbrev pub note_of : ChaseStop → List ℕ
note_of (Refused fault) = codes "tc: refused: row " ++ decimal fault.row ++ codes " column "
    ++ decimal (number_of_column fault.column) ++ codes "\n"
note_of ReadFault = codes "tc: read fault\n"
note_of WriteFault = codes "tc: write fault\n"
note_of Memory = codes "tc: out of memory\n"
note_of Limit = codes "tc: limit\n"

-- the status of each reason to stop
abbrev pub status_of : ChaseStop → Status
status_of (Refused fault) = status.Refused
status_of ReadFault = status.ReadFault
status_of WriteFault = status.WriteFault
status_of Memory = status.Memory
status_of Limit = status.Limit
