-- Digits without a fault say an address: each condition fails, so each digit is in its range, and tens and units give
-- the number back.
use Rattle.std.proofs.Common.{◌≡◌, ℕ, ◌+◌, ◌*◌, ◌/◌, ◌%◌, ◌<◌, ◌≤◌, Bool, true, false, List, [], ◌∷◌, refl, arith}
use Rattle.std.proofs.Common.{Option, None}
use Rattle.std.specs.Prelude.{find, nat_lt, nat_le}
use Rattle.std.specs.Option.{option_map}
use Rattle.std.proofs.lemmas.Grind.{common_steps}
use Rattle.tc_address.specs.declared.system.System.{System}
use Rattle.tc_address.specs.declared.system.System.TheVariants.{F24, F25, F30}
use Rattle.tc_address.specs.Count.{rate_of, system_with}
use Rattle.tc_bits.specs.declared.fault.FieldFault.{FieldFault}
use Rattle.tc_bits.specs.declared.raw.RawFields.{RawFields}
use Rattle.tc_bits.specs.Fault.{conditions, first_field_fault}
use Rattle.tc_bits.specs.Fields.{agrees, count_in, fields_of, Says}

-- the fault of the first condition that holds
abbrev first_of : List (Bool × FieldFault) → Option FieldFault
first_of rows = option_map (λ row. row.1) (find (λ row. row.0) rows)

-- none of them holds
abbrev AllFail : List (Bool × FieldFault) → Type 0
AllFail [] = Unit {0}
AllFail (row ∷ rest) = (row.0 ≡ false) × AllFail rest

all_fail : (rows : List (Bool × FieldFault)) → first_of rows ≡ None → AllFail rows
all_fail [] is = tt
all_fail ((true, fault) ∷ rest) is = absurd cc
all_fail ((false, fault) ∷ rest) is = (refl, all_fail rest is)

not_above : (n most : ℕ) → nat_lt most n ≡ false → n ≤ most
not_above n most is = grind (arith, common_steps)

not_from : (n limit : ℕ) → nat_le limit n ≡ false → n < limit
not_from n limit is = grind (arith, common_steps)

-- the count by the flag agrees with it, and is one of the system
flag_agrees : (system : System) (flag : Bool) → agrees (count_in system flag) flag ≡ true
flag_agrees F24 flag = refl
flag_agrees F25 flag = refl
flag_agrees F30 true = refl
flag_agrees F30 false = refl

of_system : (system : System) (flag : Bool) → system_with (count_in system flag) ≡ system
of_system F24 flag = refl
of_system F25 flag = refl
of_system F30 true = refl
of_system F30 false = refl

-- tens and units give back the digits
units : (t u : ℕ) → u ≤ 9 → (10 * t + u) % 10 ≡ u
units t u digit = omega arith

tens : (t u : ℕ) → u ≤ 9 → (10 * t + u) / 10 ≡ t
tens t u digit = omega arith

-- digits with no fault say an address
pub faultless_says : (system : System) (raw : RawFields) → first_field_fault system raw ≡ None
    → Says system raw (fields_of system raw)
faultless_says system raw none =
    let one : AllFail (conditions system raw) = all_fail (conditions system raw) none in
    let two = one.1 in
    let three = two.1 in
    let four = three.1 in
    let five = four.1 in
    let six = five.1 in
    let seven = six.1 in
    let eight = seven.1 in
    let nine = eight.1 in
    let frame_units = not_above raw.frame_units 9 one.0 in
    let frames = not_from (10 * raw.frame_tens + raw.frame_units) (rate_of system) two.0 in
    let second_units = not_above raw.second_units 9 three.0 in
    let second_tens = not_above raw.second_tens 5 four.0 in
    let minute_units = not_above raw.minute_units 9 five.0 in
    let minute_tens = not_above raw.minute_tens 5 six.0 in
    let hour_units = not_above raw.hour_units 9 seven.0 in
    let hours = not_above (10 * raw.hour_tens + raw.hour_units) 23 eight.0 in
    let of = of_system system raw.flags.drop_frame in
    record {
      valid = record {
        label = record {
          hours = omega arith;
          minutes = omega arith;
          seconds = omega arith;
          frames = rw of frames;
          counted = nine.0;
        };
        flag = flag_agrees system raw.flags.drop_frame;
      };
      count = of;
      digits = rw (
        units raw.frame_tens raw.frame_units frame_units,
        tens raw.frame_tens raw.frame_units frame_units,
        units raw.second_tens raw.second_units second_units,
        tens raw.second_tens raw.second_units second_units,
        units raw.minute_tens raw.minute_units minute_units,
        tens raw.minute_tens raw.minute_units minute_units,
        units raw.hour_tens raw.hour_units hour_units,
        tens raw.hour_tens raw.hour_units hour_units,
      ) refl;
    }
