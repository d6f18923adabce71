-- A word's table of places, and its fields as a row of numbers in them (SMPTE 12M).
use Rattle.std.specs.Prelude.{ℕ, ◌+◌, ◌/◌, ◌%◌, ◌≤◌, Bool, cond, List, [], ◌∷◌, ◌++◌}
use Rattle.tc_address.specs.Label.{Address}
use Rattle.tc_bits.specs.declared.flags.Flags.{Flags}
use Rattle.tc_bits.specs.declared.place.Place.{Place}
use Rattle.tc_bits.specs.declared.table.Table.{Table}
use Rattle.tc_bits.specs.Fields.{FieldValues}
use Rattle.tc_bits.specs.Row.{Entry, entry, are_within}
use Rattle.tc_bits.specs.UserBits.{group}

-- this many bits from this one on
abbrev pub place : ℕ → ℕ → Place
place first width = record { first = first; width = width }

-- all places of a table
abbrev pub places_in : Table → List Place
places_in t =
    place t.frame_units 4 ∷ place t.frame_tens 2 ∷ place t.second_units 4 ∷ place t.second_tens 3
    ∷ place t.minute_units 4 ∷ place t.minute_tens 3 ∷ place t.hour_units 4 ∷ place t.hour_tens 2
    ∷ place t.drop_frame 1 ∷ place t.colour_frame 1
    ∷ place t.group_flag_zero 1 ∷ place t.group_flag_one 1 ∷ place t.group_flag_two 1
    ∷ place t.user_one 4 ∷ place t.user_two 4 ∷ place t.user_three 4 ∷ place t.user_four 4
    ∷ place t.user_five 4 ∷ place t.user_six 4 ∷ place t.user_seven 4 ∷ place t.user_eight 4 ∷ []

-- each of them lies within 100 bits
abbrev pub is_table : Table → Bool
is_table t = are_within 100 (places_in t)

-- the same, field by field
pub record IsTable (t : Table) : Type 0 where
  pub frame_units : t.frame_units + 4 ≤ 100
  pub frame_tens : t.frame_tens + 2 ≤ 100
  pub second_units : t.second_units + 4 ≤ 100
  pub second_tens : t.second_tens + 3 ≤ 100
  pub minute_units : t.minute_units + 4 ≤ 100
  pub minute_tens : t.minute_tens + 3 ≤ 100
  pub hour_units : t.hour_units + 4 ≤ 100
  pub hour_tens : t.hour_tens + 2 ≤ 100
  pub drop_frame : t.drop_frame + 1 ≤ 100
  pub colour_frame : t.colour_frame + 1 ≤ 100
  pub group_flag_zero : t.group_flag_zero + 1 ≤ 100
  pub group_flag_one : t.group_flag_one + 1 ≤ 100
  pub group_flag_two : t.group_flag_two + 1 ≤ 100
  pub user_one : t.user_one + 4 ≤ 100
  pub user_two : t.user_two + 4 ≤ 100
  pub user_three : t.user_three + 4 ≤ 100
  pub user_four : t.user_four + 4 ≤ 100
  pub user_five : t.user_five + 4 ≤ 100
  pub user_six : t.user_six + 4 ≤ 100
  pub user_seven : t.user_seven + 4 ≤ 100
  pub user_eight : t.user_eight + 4 ≤ 100

-- a flag as a bit
abbrev pub digit : Bool → ℕ
digit flag = cond flag 1 0

-- the digits of an address in their places
abbrev pub address_row : Table → Address → List Entry
address_row t a =
    entry (place t.frame_units 4) (a.frames % 10) ∷ entry (place t.frame_tens 2) (a.frames / 10)
    ∷ entry (place t.second_units 4) (a.seconds % 10) ∷ entry (place t.second_tens 3) (a.seconds / 10)
    ∷ entry (place t.minute_units 4) (a.minutes % 10) ∷ entry (place t.minute_tens 3) (a.minutes / 10)
    ∷ entry (place t.hour_units 4) (a.hours % 10) ∷ entry (place t.hour_tens 2) (a.hours / 10) ∷ []

-- the flags in theirs
abbrev pub flag_row : Table → Flags → List Entry
flag_row t f =
    entry (place t.drop_frame 1) (digit f.drop_frame) ∷ entry (place t.colour_frame 1) (digit f.colour_frame)
    ∷ entry (place t.group_flag_zero 1) (digit f.group_flag_zero)
    ∷ entry (place t.group_flag_one 1) (digit f.group_flag_one)
    ∷ entry (place t.group_flag_two 1) (digit f.group_flag_two) ∷ []

-- and the user groups
abbrev pub user_row : Table → ℕ → List Entry
user_row t user =
    entry (place t.user_one 4) (group 1 user) ∷ entry (place t.user_two 4) (group 2 user)
    ∷ entry (place t.user_three 4) (group 3 user) ∷ entry (place t.user_four 4) (group 4 user)
    ∷ entry (place t.user_five 4) (group 5 user) ∷ entry (place t.user_six 4) (group 6 user)
    ∷ entry (place t.user_seven 4) (group 7 user) ∷ entry (place t.user_eight 4) (group 8 user) ∷ []

-- all fields of a word in the places of its table
abbrev pub row_of : Table → FieldValues → List Entry
row_of t c = address_row t c.label ++ flag_row t c.flags ++ user_row t c.user
