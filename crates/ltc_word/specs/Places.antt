-- Where the fields are that have another place in each system (SMPTE 12M, the table of the
-- linear time code word), and all places of a system.
use Rattle.std.specs.Prelude.{ℕ, Bool, List, ◌∷◌}
use Rattle.tc_address.specs.declared.system.System.{System}
use Rattle.tc_address.specs.declared.system.System.TheVariants.{F24, F25, F30}
use Rattle.tc_bits.specs.declared.place.Place.{Place}
use Rattle.tc_bits.specs.declared.table.Table.{Table}
use Rattle.tc_bits.specs.Row as row
use Rattle.tc_bits.specs.Table.{place, places_in}
use Rattle.ltc_word.specs.declared.places.TheConstants as places

-- where the polarity correction stands in a system
abbrev pub polarity_bit : System → ℕ
polarity_bit F24 = places.BIT_27
polarity_bit F25 = places.BIT_59
polarity_bit F30 = places.BIT_27

-- the table of a system: at 25 frames binary group flags 0 and 2 have other places
abbrev pub table_of : System → Table
table_of F25 = record places.TABLE { group_flag_zero = places.BIT_27; group_flag_two = places.BIT_43 }
table_of system = places.TABLE

-- all places of a system
abbrev pub places_of : System → List Place
places_of system = place (polarity_bit system) 1 ∷ places.SYNC ∷ places_in (table_of system)

-- each of the 80 bits belongs to exactly one of the places
abbrev pub are_shared_out : List Place → Bool
are_shared_out places = row.are_shared_out 80 places
