-- The lines of a report on MIDI bytes, byte for byte. Their form is this project's own.
use Rattle.std.specs.Prelude.{ℕ, List, ◌++◌, codes, decimal}
use Rattle.tc_address.specs.declared.label.LabelFault.{LabelFault}
use Rattle.tc_address.specs.declared.label.LabelFault.TheVariants as faults
use Rattle.tc_address.specs.Spelling.{text_of}
use Rattle.line_text.specs.Line.{direction_name}
use Rattle.mtc_reader.specs.declared.event.MtcEvent.{MtcEvent}
use Rattle.mtc_reader.specs.declared.event.MtcEvent.TheVariants.{Full, Quarter, RefusedFull, RefusedQuarter}

-- the word for each fault of an address
abbrev pub fault_name : LabelFault → List ℕ
fault_name faults.Hours = codes "hours"
fault_name faults.Minutes = codes "minutes"
fault_name faults.Seconds = codes "seconds"
fault_name faults.Frames = codes "frames"
fault_name faults.Dropped = codes "dropped"

-- the end of a line: the place of the byte that completes the message
abbrev pub at_byte : ℕ → List ℕ
at_byte place = codes " byte " ++ decimal place ++ codes "\n"

-- the line of an event
abbrev pub event_line : MtcEvent → List ℕ
event_line (Full label place) = codes "full " ++ text_of label ++ at_byte place
event_line (Quarter direction label place) =
    codes "quarter " ++ direction_name direction ++ codes " " ++ text_of label ++ at_byte place
event_line (RefusedFull fault place) = codes "refused full " ++ fault_name fault ++ at_byte place
event_line (RefusedQuarter direction fault place) =
    codes "refused " ++ direction_name direction ++ codes " " ++ fault_name fault ++ at_byte place

-- the last line: how many bytes, labels of full messages, labels of quarter frames and refused addresses there are
abbrev pub end_line : ℕ → ℕ → ℕ → ℕ → List ℕ
end_line bytes full quarter refused =
    codes "end bytes " ++ decimal bytes ++ codes " full " ++ decimal full ++ codes " quarter " ++ decimal quarter
    ++ codes " refused " ++ decimal refused ++ codes "\n"
