-- Where the fields are that have another place in each system (SMPTE 12M, the table of the vertical
-- interval time code), where the sync pairs are, and all places of a system.
use Rattle.std.specs.Prelude.{ℕ, ◌*◌, Bool, List, ◌∷◌, ◌++◌, map}
use Rattle.std.specs.List.{range_with_len}
use Rattle.tc_address.specs.declared.system.System.{System}
use Rattle.tc_address.specs.declared.system.System.TheVariants.{F24, F25, F30}
use Rattle.tc_bits.specs.declared.place.Place.{Place}
use Rattle.tc_bits.specs.declared.table.Table.{Table}
use Rattle.tc_bits.specs.Row as row
use Rattle.tc_bits.specs.Table.{place, places_in}
use Rattle.vitc_line.specs.declared.places.TheConstants as places

-- pictures of 25 or 30 frames have lines with time code
abbrev pub HasLines : System → Type 0
HasLines F24 = ⊥
HasLines F25 = Unit {0}
HasLines F30 = Unit {0}

-- a sync pair stands before each eight bits
abbrev pub sync_pair_place : ℕ → Place
sync_pair_place pair = record { first = 10 * pair; width = 2 }

-- the field mark
abbrev pub field_mark_bit : System → ℕ
field_mark_bit F24 = places.BIT_35
field_mark_bit F25 = places.BIT_75
field_mark_bit F30 = places.BIT_35

-- the table of a system: at 25 frames binary group flags 0 and 2 have other places
abbrev pub table_of : System → Table
table_of F25 = record places.TABLE { group_flag_zero = places.BIT_35; group_flag_two = places.BIT_55 }
table_of system = places.TABLE

-- all places of a system
abbrev pub places_of : System → List Place
places_of system =
    places.CHECK ∷ place (field_mark_bit system) 1 ∷ map sync_pair_place (range_with_len 0 9)
    ++ places_in (table_of system)

-- each of the 90 bits belongs to exactly one of the places
abbrev pub are_shared_out : List Place → Bool
are_shared_out places = row.are_shared_out 90 places
