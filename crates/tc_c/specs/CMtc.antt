-- An event of MIDI Time Code in numbers. They are this project's own.
use Rattle.std.specs.Prelude.{◌≡◌, ℕ, List, nat_le, ◌^◌, Bool}
use Rattle.mtc_reader.specs.declared.event.MtcEvent.{MtcEvent}
use Rattle.mtc_reader.specs.declared.event.MtcEvent.TheVariants.{Full, Quarter, RefusedFull, RefusedQuarter}
use Rattle.mtc_reader.specs.declared.reader.MtcReader.{MtcReader}
use Rattle.mtc_reader.specs.Events.{events_in}
use Rattle.mtc_reader.specs.StandsFor.{StandsFor}
use Rattle.tc_address.specs.declared.label.LabelFault.{LabelFault}
use Rattle.tc_address.specs.declared.label.LabelFault.TheVariants as faults
use Rattle.tc_c.specs.CEvent.{direction_number}
use Rattle.tc_c.specs.CLabel.{c_label, c_no_label}
use Rattle.tc_c.specs.declared.mtc_event.TcMtcEvent.{TcMtcEvent}

-- the fault of an address, in the order in which they are tested
abbrev pub label_fault_number : LabelFault → ℕ
label_fault_number faults.Hours = 1
label_fault_number faults.Minutes = 2
label_fault_number faults.Seconds = 3
label_fault_number faults.Frames = 4
label_fault_number faults.Dropped = 5

-- an event
abbrev pub c_mtc_event : MtcEvent → TcMtcEvent
c_mtc_event (Full label place) =
    record { kind = 1; direction = 0; fault = 0; label = c_label label; place = place }
c_mtc_event (Quarter direction label place) =
    record { kind = 2; direction = direction_number direction; fault = 0; label = c_label label; place = place }
c_mtc_event (RefusedFull fault place) =
    record { kind = 1; direction = 0; fault = label_fault_number fault; label = c_no_label; place = place }
c_mtc_event (RefusedQuarter direction fault place) = record {
  kind = 2;
  direction = direction_number direction;
  fault = label_fault_number fault;
  label = c_no_label;
  place = place;
}

-- a reader was given these bytes, and has told these events: those of the bytes
abbrev pub HasTold : MtcReader → List ℕ → List MtcEvent → Type 0
HasTold reader bytes events = StandsFor reader bytes × (events ≡ events_in bytes)

-- it takes no more bytes
abbrev pub is_full_of_bytes : MtcReader → Bool
is_full_of_bytes reader = nat_le (2 ^ 62) reader.bytes
