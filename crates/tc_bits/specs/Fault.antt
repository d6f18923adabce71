-- The faults of the fields of a word, in the order in which they are looked for (this project's).
use Rattle.std.specs.Prelude.{ℕ, ◌+◌, ◌*◌, Bool, nat_lt, nat_le, List, [], ◌∷◌, Option, find}
use Rattle.std.specs.Option.{option_map}
use Rattle.tc_address.specs.declared.system.System.{System}
use Rattle.tc_address.specs.Count.{rate_of}
use Rattle.tc_address.specs.Label.{is_dropped}
use Rattle.tc_bits.specs.declared.names.TheConstants as names
use Rattle.tc_bits.specs.declared.fault.FieldFault.{FieldFault}
use Rattle.tc_bits.specs.declared.fault.FieldFault.TheVariants.{FrameUnits, Frames, SecondUnits, SecondTens}
use Rattle.tc_bits.specs.declared.fault.FieldFault.TheVariants.{MinuteUnits, MinuteTens}
use Rattle.tc_bits.specs.declared.fault.FieldFault.TheVariants.{HourUnits, Hours, DroppedLabel}
use Rattle.tc_bits.specs.declared.raw.RawFields.{RawFields}
use Rattle.tc_bits.specs.Fields.{address_of}

-- each fault with its condition, in the order of the table
abbrev pub conditions : System → RawFields → List (Bool × FieldFault)
conditions system raw =
    (nat_lt 9 raw.frame_units, FrameUnits)
    ∷ (nat_le (rate_of system) (10 * raw.frame_tens + raw.frame_units), Frames)
    ∷ (nat_lt 9 raw.second_units, SecondUnits)
    ∷ (nat_lt 5 raw.second_tens, SecondTens)
    ∷ (nat_lt 9 raw.minute_units, MinuteUnits)
    ∷ (nat_lt 5 raw.minute_tens, MinuteTens)
    ∷ (nat_lt 9 raw.hour_units, HourUnits)
    ∷ (nat_lt 23 (10 * raw.hour_tens + raw.hour_units), Hours)
    ∷ (is_dropped (address_of system raw), DroppedLabel)
    ∷ []

-- the first fault whose condition holds
abbrev pub first_field_fault : System → RawFields → Option FieldFault
first_field_fault system raw = option_map (λ row. row.1) (find (λ row. row.0) (conditions system raw))

-- the name that a report prints
abbrev pub name_of : FieldFault → List ℕ
name_of FrameUnits = names.FRAME_UNITS.now
name_of Frames = names.FRAMES.now
name_of SecondUnits = names.SECOND_UNITS.now
name_of SecondTens = names.SECOND_TENS.now
name_of MinuteUnits = names.MINUTE_UNITS.now
name_of MinuteTens = names.MINUTE_TENS.now
name_of HourUnits = names.HOUR_UNITS.now
name_of Hours = names.HOURS.now
name_of DroppedLabel = names.DROPPED_LABEL.now
