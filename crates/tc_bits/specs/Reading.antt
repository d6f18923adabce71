-- What is in the places of a table: digits, flags and user bits, whether or not they are an address.
use Rattle.std.specs.Prelude.{ℕ, [], ◌∷◌, map, ◌==◌}
use Rattle.tc_bits.specs.declared.flags.Flags.{Flags}
use Rattle.tc_bits.specs.declared.raw.RawFields.{RawFields}
use Rattle.tc_bits.specs.declared.table.Table.{Table}
use Rattle.tc_bits.specs.Register.{field}
use Rattle.tc_bits.specs.UserBits.{number_of_groups}

-- the flags that stand in the bits
abbrev pub flags_in : Table → ℕ → Flags
flags_in t bits = record {
  drop_frame = field bits t.drop_frame 1 == 1;
  colour_frame = field bits t.colour_frame 1 == 1;
  group_flag_zero = field bits t.group_flag_zero 1 == 1;
  group_flag_one = field bits t.group_flag_one 1 == 1;
  group_flag_two = field bits t.group_flag_two 1 == 1;
}

-- the user bits that stand in the bits
abbrev pub user_in : Table → ℕ → ℕ
user_in t bits = number_of_groups (map (λ first. field bits first 4)
    (t.user_one ∷ t.user_two ∷ t.user_three ∷ t.user_four ∷ t.user_five ∷ t.user_six ∷ t.user_seven ∷ t.user_eight
    ∷ []))

-- the digits, flags and user bits that stand in the bits
abbrev pub raw_in : Table → ℕ → RawFields
raw_in t bits = record {
  frame_units = field bits t.frame_units 4;
  frame_tens = field bits t.frame_tens 2;
  second_units = field bits t.second_units 4;
  second_tens = field bits t.second_tens 3;
  minute_units = field bits t.minute_units 4;
  minute_tens = field bits t.minute_tens 3;
  hour_units = field bits t.hour_units 4;
  hour_tens = field bits t.hour_tens 2;
  flags = flags_in t bits;
  user = user_in t bits;
}
