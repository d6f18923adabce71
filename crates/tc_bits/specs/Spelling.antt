-- The fields of a word as its places spell them (SMPTE 12M, the tables of the two kinds of word).
use Rattle.std.specs.Prelude.{◌≡◌, ℕ, ◌/◌, ◌%◌, ◌^◌, ◌<◌, Bool}
use Rattle.tc_address.specs.declared.system.System.{System}
use Rattle.tc_address.specs.Count.{system_with}
use Rattle.tc_address.specs.Label.{Address, IsLabel}
use Rattle.tc_bits.specs.declared.flags.Flags.{Flags}
use Rattle.tc_bits.specs.declared.table.Table.{Table}
use Rattle.tc_bits.specs.Fields.{FieldValues, IsFields, Says}
use Rattle.tc_bits.specs.Reading.{raw_in}
use Rattle.tc_bits.specs.Register.{field, is_set}
use Rattle.tc_bits.specs.Row.{Fit, Holds}
use Rattle.tc_bits.specs.Table.{digit, place, row_of}
use Rattle.tc_bits.specs.UserBits.{group}

-- each digit of the address stands in its place
pub record SpellsAddress (t : Table) (a : Address) (bits : ℕ) : Type 0 where
  pub frame_units : field bits t.frame_units 4 ≡ a.frames % 10
  pub frame_tens : field bits t.frame_tens 2 ≡ a.frames / 10
  pub second_units : field bits t.second_units 4 ≡ a.seconds % 10
  pub second_tens : field bits t.second_tens 3 ≡ a.seconds / 10
  pub minute_units : field bits t.minute_units 4 ≡ a.minutes % 10
  pub minute_tens : field bits t.minute_tens 3 ≡ a.minutes / 10
  pub hour_units : field bits t.hour_units 4 ≡ a.hours % 10
  pub hour_tens : field bits t.hour_tens 2 ≡ a.hours / 10

-- each flag stands in its place
pub record SpellsFlags (t : Table) (flags : Flags) (bits : ℕ) : Type 0 where
  pub drop_frame : is_set (place t.drop_frame 1) bits ≡ flags.drop_frame
  pub colour_frame : is_set (place t.colour_frame 1) bits ≡ flags.colour_frame
  pub group_flag_zero : is_set (place t.group_flag_zero 1) bits ≡ flags.group_flag_zero
  pub group_flag_one : is_set (place t.group_flag_one 1) bits ≡ flags.group_flag_one
  pub group_flag_two : is_set (place t.group_flag_two 1) bits ≡ flags.group_flag_two

-- each of the eight user groups stands in its place
pub record SpellsUserBits (t : Table) (user bits : ℕ) : Type 0 where
  pub one : field bits t.user_one 4 ≡ group 1 user
  pub two : field bits t.user_two 4 ≡ group 2 user
  pub three : field bits t.user_three 4 ≡ group 3 user
  pub four : field bits t.user_four 4 ≡ group 4 user
  pub five : field bits t.user_five 4 ≡ group 5 user
  pub six : field bits t.user_six 4 ≡ group 6 user
  pub seven : field bits t.user_seven 4 ≡ group 7 user
  pub eight : field bits t.user_eight 4 ≡ group 8 user
  pub no_more : user < 2 ^ 32

-- all of them
pub record SpellsFields (t : Table) (c : FieldValues) (bits : ℕ) : Type 0 where
  pub address : SpellsAddress t c.label bits
  pub flags : SpellsFlags t c.flags bits
  pub user : SpellsUserBits t c.user bits

-- fields are spelled exactly where the digits say them, and exactly where their numbers stand in the
-- places of the table, which they fit
pub record AreExact : Type 0 where
  pub said : (system : System) (t : Table) (c : FieldValues) (bits : ℕ) → Says system (raw_in t bits) c
      → SpellsFields t c bits
  pub says : (system : System) (t : Table) (c : FieldValues) (bits : ℕ) → IsFields c
      → system_with c.label.count ≡ system
      → SpellsFields t c bits → Says system (raw_in t bits) c
  pub held : (t : Table) (c : FieldValues) (bits : ℕ) → c.user < 2 ^ 32 → Holds (row_of t c) bits
      → SpellsFields t c bits
  pub holds : (t : Table) (c : FieldValues) (bits : ℕ) → SpellsFields t c bits → Holds (row_of t c) bits
  pub fit : (t : Table) (c : FieldValues) → IsLabel c.label → Fit (row_of t c)
  pub flag_read : (bits first : ℕ) (flag : Bool) → field bits first 1 ≡ digit flag → is_set (place first 1) bits ≡ flag
  pub flag_held : (bits first : ℕ) (flag : Bool) → is_set (place first 1) bits ≡ flag → field bits first 1 ≡ digit flag
