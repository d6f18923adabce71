-- The first fault of 90 bits: the least sync pair that is wrong, else the least residue of the check
-- that is wrong, else the first fault of the fields.
use Rattle.std.specs.Prelude.{ℕ, Bool, ◌==◌, not, Option, Some, None, find}
use Rattle.std.specs.Option.{option_map}
use Rattle.std.specs.List.{range_with_len}
use Rattle.tc_address.specs.declared.system.System.{System}
use Rattle.tc_bits.specs.declared.fault.FieldFault.{FieldFault}
use Rattle.tc_bits.specs.Fault.{first_field_fault}
use Rattle.tc_bits.specs.Reading.{raw_in}
use Rattle.tc_bits.specs.Register.{number_in}
use Rattle.vitc_line.specs.declared.word.LineFault.{LineFault}
use Rattle.vitc_line.specs.declared.word.LineFault.TheVariants.{SyncPair, Check, Field}
use Rattle.vitc_line.specs.Places.{sync_pair_place, table_of}
use Rattle.vitc_line.specs.CheckBits.{wrong_residue}

-- a sync pair is not the bit 1 and then the bit 0
abbrev pub is_wrong_pair : ℕ → ℕ → Bool
is_wrong_pair bits pair = not (number_in (sync_pair_place pair) bits == 1)

-- the least sync pair that is wrong
unfoldable pub wrong_sync_pair : ℕ → Option ℕ
wrong_sync_pair bits = find (is_wrong_pair bits) (range_with_len 0 9)

-- a sync pair before the check, and the check before the fields
abbrev pub in_order : Option ℕ → Option ℕ → Option FieldFault → Option LineFault
in_order (Some pair) residue fault = Some (SyncPair pair)
in_order None (Some residue) fault = Some (Check residue)
in_order None None fault = option_map (λ f. Field f) fault

-- the first fault
abbrev pub first_fault : System → ℕ → Option LineFault
first_fault system bits =
    in_order (wrong_sync_pair bits) (wrong_residue bits) (first_field_fault system (raw_in (table_of system) bits))
