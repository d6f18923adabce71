-- The fields of a word (SMPTE 12M, the tables of the linear and of the vertical interval code):
-- a frame address, flag bits and user bits, and the digits that a word has for them.
use Rattle.std.specs.Prelude.{◌≡◌, ℕ, ◌+◌, ◌*◌, ◌/◌, ◌%◌, ◌<◌, Bool, true, false, not}
use Rattle.tc_address.specs.declared.system.System.{System}
use Rattle.tc_address.specs.declared.system.System.TheVariants.{F24, F25, F30}
use Rattle.tc_address.specs.declared.count.Count.{Count}
use Rattle.tc_address.specs.declared.count.Count.TheVariants.{C24, C25, C30, Drop30}
use Rattle.tc_address.specs.Count.{system_with}
use Rattle.tc_address.specs.Label.{Address, IsLabel}
use Rattle.tc_bits.specs.declared.flags.Flags.{Flags}
use Rattle.tc_bits.specs.declared.raw.RawFields.{RawFields}

-- a frame address with its flag bits and user bits
pub record FieldValues : Type 0 where
  pub label : Address
  pub flags : Flags
  pub user : ℕ

-- flags in the order of a report: drop-frame, colour-frame, binary group flags 0, 1 and 2
abbrev pub flags : Bool → Bool → Bool → Bool → Bool → Flags
flags drop_frame colour_frame zero one two = record {
  drop_frame = drop_frame;
  colour_frame = colour_frame;
  group_flag_zero = zero;
  group_flag_one = one;
  group_flag_two = two;
}

-- the fields of a word, by their parts
abbrev pub field_values : Address → Flags → ℕ → FieldValues
field_values label flags user = record { label = label; flags = flags; user = user }

-- at 30 frames the drop-frame flag tells the count; at 24 and 25 it has no effect
abbrev pub agrees : Count → Bool → Bool
agrees C24 flag = true
agrees C25 flag = true
agrees C30 flag = not flag
agrees Drop30 flag = flag

-- the address is a label, and the drop-frame flag agrees with its count
pub record IsFields (c : FieldValues) : Type 0 where
  pub label : IsLabel c.label
  pub flag : agrees c.label.count c.flags.drop_frame ≡ true

-- the units and tens of the address, with the flags and the user bits
abbrev pub digits_of : FieldValues → RawFields
digits_of c = record {
  frame_units = c.label.frames % 10;
  frame_tens = c.label.frames / 10;
  second_units = c.label.seconds % 10;
  second_tens = c.label.seconds / 10;
  minute_units = c.label.minutes % 10;
  minute_tens = c.label.minutes / 10;
  hour_units = c.label.hours % 10;
  hour_tens = c.label.hours / 10;
  flags = c.flags;
  user = c.user;
}

-- the count of a word in a system, by its drop-frame flag
abbrev pub count_in : System → Bool → Count
count_in F24 flag = C24
count_in F25 flag = C25
count_in F30 false = C30
count_in F30 true = Drop30

-- each unit has four bits, and each ten has three at most
pub record FitsDigits (raw : RawFields) : Type 0 where
  pub frame_units : raw.frame_units < 16
  pub frame_tens : raw.frame_tens < 8
  pub second_units : raw.second_units < 16
  pub second_tens : raw.second_tens < 8
  pub minute_units : raw.minute_units < 16
  pub minute_tens : raw.minute_tens < 8
  pub hour_units : raw.hour_units < 16
  pub hour_tens : raw.hour_tens < 8

-- the address that the digits say
abbrev pub address_of : System → RawFields → Address
address_of system raw = record {
  count = count_in system raw.flags.drop_frame;
  hours = 10 * raw.hour_tens + raw.hour_units;
  minutes = 10 * raw.minute_tens + raw.minute_units;
  seconds = 10 * raw.second_tens + raw.second_units;
  frames = 10 * raw.frame_tens + raw.frame_units;
}

-- the fields that the digits say, whether or not they are at fault
abbrev pub fields_of : System → RawFields → FieldValues
fields_of system raw = record { label = address_of system raw; flags = raw.flags; user = raw.user }

-- the system's fields that have these digits
pub record Says (system : System) (raw : RawFields) (c : FieldValues) : Type 0 where
  pub valid : IsFields c
  pub count : system_with c.label.count ≡ system
  pub digits : digits_of c ≡ raw
