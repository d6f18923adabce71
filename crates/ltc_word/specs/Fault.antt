-- The first fault of 80 bits: the least bit of the sync word that differs, else the first fault of
-- the fields.
use Rattle.std.specs.Prelude.{ℕ, ◌-◌, Bool, ◌==◌, not, Option, Some, None, find}
use Rattle.std.specs.Option.{option_map}
use Rattle.std.specs.List.{range_with_len}
use Rattle.std.specs.Int.{bit_at}
use Rattle.tc_address.specs.declared.system.System.{System}
use Rattle.tc_bits.specs.declared.fault.FieldFault.{FieldFault}
use Rattle.tc_bits.specs.Fault.{first_field_fault}
use Rattle.tc_bits.specs.Reading.{raw_in}
use Rattle.ltc_word.specs.declared.places.TheConstants as places
use Rattle.ltc_word.specs.declared.word.WordFault.{WordFault}
use Rattle.ltc_word.specs.declared.word.WordFault.TheVariants.{Sync, Field}
use Rattle.ltc_word.specs.Places.{table_of}

-- a bit of the sync word is another than the pattern's
abbrev pub differs : ℕ → ℕ → Bool
differs bits place = not (bit_at bits place == bit_at places.SYNC_PATTERN (place - places.SYNC.first))

-- the least bit of the sync word that differs
unfoldable pub wrong_sync_bit : ℕ → Option ℕ
wrong_sync_bit bits = find (differs bits) (range_with_len places.SYNC.first places.SYNC.width)

-- a wrong bit of the sync word comes before a fault of the fields
abbrev pub sync_first : Option ℕ → Option FieldFault → Option WordFault
sync_first (Some place) fault = Some (Sync place)
sync_first None fault = option_map (λ f. Field f) fault

-- the first fault
abbrev pub first_fault : System → ℕ → Option WordFault
first_fault system bits = sync_first (wrong_sync_bit bits) (first_field_fault system (raw_in (table_of system) bits))

-- the fault is not the sync word's
abbrev pub IsOfFields : WordFault → Type 0
IsOfFields (Sync place) = ⊥
IsOfFields (Field fault) = Unit {0}
