-- What notes say of the fault of an input. Each kind of file has its own faults.
use Rattle.std.specs.Prelude.{ℕ, List, ◌++◌, codes, decimal}
use Rattle.interval_file.specs.Fault as intervals
use Rattle.file_faults.specs.Lines as lines
use Rattle.file_faults.specs.Sound as sound
use Rattle.tc_command.specs.declared.input_fault.InputFault.{InputFault}
use Rattle.tc_command.specs.declared.input_fault.InputFault.TheVariants.{Intervals, Lines, Sound, Labels}
use Rattle.tc_command.specs.declared.input_fault.InputFault.TheVariants.{HalfField, HalfSample}

-- the name of a fault, and the byte place at which it stands, from 0
abbrev pub at_byte : List ℕ → ℕ → List ℕ
at_byte name place = name ++ codes " at byte " ++ decimal place

-- the line and the column of a text, both from 1
abbrev pub at_column : ℕ → ℕ → List ℕ
at_column line column = codes "line " ++ decimal line ++ codes " column " ++ decimal column

-- of a file the name of the fault and its byte place, and of a text the line and the column
abbrev pub fault_text : InputFault → List ℕ
fault_text (Intervals fault) = at_byte (intervals.name_of fault) (intervals.place_of fault)
fault_text (Lines fault) = at_byte (lines.name_of fault) (lines.place_of fault)
fault_text (Sound fault) = at_byte (sound.name_of fault) (sound.place_of fault)
fault_text (HalfSample place) = at_byte (codes "truncated") place
fault_text (HalfField place) = at_byte (codes "truncated") place
fault_text (Labels fault) = at_column fault.line fault.column
