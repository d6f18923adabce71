-- An event in numbers. They are this project's own.
use Rattle.std.specs.Prelude.{ℕ, ◌+◌, ◌*◌, Bool, true, false}
use Rattle.tc_address.specs.declared.direction.Direction.{Direction}
use Rattle.tc_address.specs.declared.direction.Direction.TheVariants.{Forward, Backward}
use Rattle.tc_address.specs.declared.count.Count.{Count}
use Rattle.tc_address.specs.declared.count.Count.TheVariants.{C24, C25, C30, Drop30}
use Rattle.tc_bits.specs.declared.flags.Flags.{Flags}
use Rattle.tc_bits.specs.declared.fault.FieldFault.{FieldFault}
use Rattle.tc_bits.specs.declared.fault.FieldFault.TheVariants as faults
use Rattle.ltc_word.specs.declared.word.LtcWord.{LtcWord}
use Rattle.direction_reader.specs.declared.event.Event.{Event}
use Rattle.direction_reader.specs.declared.event.Event.TheVariants.{Word, Refused, Lost}
use Rattle.direction_reader.specs.declared.firm_event.FirmEvent.{FirmEvent}
use Rattle.direction_reader.specs.declared.firm_event.FirmEvent.TheVariants.{Told, Alone}
use Rattle.tc_c.specs.declared.event.TcEvent.{TcEvent}

-- a direction
abbrev pub direction_number : Direction → ℕ
direction_number Forward = 0
direction_number Backward = 1

-- a count
abbrev pub count_number : Count → ℕ
count_number C24 = 0
count_number C25 = 1
count_number C30 = 2
count_number Drop30 = 3

-- a fault, in the order in which they are tested
abbrev pub fault_number : FieldFault → ℕ
fault_number faults.FrameUnits = 1
fault_number faults.Frames = 2
fault_number faults.SecondUnits = 3
fault_number faults.SecondTens = 4
fault_number faults.MinuteUnits = 5
fault_number faults.MinuteTens = 6
fault_number faults.HourUnits = 7
fault_number faults.Hours = 8
fault_number faults.DroppedLabel = 9

-- 1 where a flag is set
abbrev pub bit : Bool → ℕ
bit true = 1
bit false = 0

-- the flags of a word and its balance, as bits
abbrev pub flag_bits : Flags → Bool → ℕ
flag_bits flags balanced = bit flags.drop_frame + 2 * bit flags.colour_frame + 4 * bit flags.group_flag_zero
    + 8 * bit flags.group_flag_one + 16 * bit flags.group_flag_two + 32 * bit balanced

-- a word
abbrev pub c_word : Direction → LtcWord → ℕ → ℕ → TcEvent
c_word direction word tick length = record {
  kind = 1;
  direction = direction_number direction;
  detail = count_number word.fields.label.count;
  flags = flag_bits word.fields.flags word.balanced;
  hours = word.fields.label.hours;
  minutes = word.fields.label.minutes;
  seconds = word.fields.label.seconds;
  frames = word.fields.label.frames;
  user = word.fields.user;
  zero = 0;
  tick = tick;
  length = length;
}

-- a refused word, with the number of its fault
abbrev pub c_refused : Direction → ℕ → ℕ → TcEvent
c_refused direction detail tick = record {
  kind = 2;
  direction = direction_number direction;
  detail = detail;
  flags = 0;
  hours = 0;
  minutes = 0;
  seconds = 0;
  frames = 0;
  user = 0;
  zero = 0;
  tick = tick;
  length = 0;
}

-- an event
abbrev pub c_event : Event → TcEvent
c_event (Word direction word tick length) = c_word direction word tick length
c_event (Refused direction fault tick) = c_refused direction (fault_number fault) tick
c_event (Lost interval tick) = record {
  kind = 3;
  direction = 0;
  detail = 0;
  flags = 0;
  hours = 0;
  minutes = 0;
  seconds = 0;
  frames = 0;
  user = 0;
  zero = 0;
  tick = tick;
  length = interval;
}

-- an event that is told where words may be asked for a witness: a word without one is refused, and its fault is 12
abbrev pub c_told : FirmEvent → TcEvent
c_told (Told event) = c_event event
c_told (Alone direction word tick length) = c_refused direction 12 tick
