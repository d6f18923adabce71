-- What the places of a table hold are numbers of a row, each below its width.
use Rattle.std.proofs.Common.{◌≡◌, ℕ, ◌-◌, ◌*◌, ◌/◌, ◌^◌, ◌<◌, Bool, true, false, refl, lit<, arith}
use Rattle.std.proofs.lemmas.Bool.{eqb-true, eqb-false}
use Rattle.std.proofs.lemmas.Nat.{mod_below}
use Rattle.lemmas.specs.Lists.{also}
use Rattle.tc_bits.specs.FieldLemmas.{digit_below}
use Rattle.tc_address.specs.LabelLemmas.{rate_within}
use Rattle.tc_address.specs.Count.{system_with}
use Rattle.tc_address.specs.Label.{IsLabel}
use Rattle.tc_bits.specs.declared.table.Table.{Table}
use Rattle.tc_bits.specs.Fields.{FieldValues}
use Rattle.tc_bits.specs.Register.{field, is_set}
use Rattle.tc_bits.specs.Row.{Fit, Holds}
use Rattle.tc_bits.specs.Spelling.{AreExact, SpellsFields}
use Rattle.tc_bits.specs.Table.{digit, place, row_of}
use Rattle.tc_bits.specs.UserBits.{group}
use Rattle.tc_bits.proofs.FieldsOfATable.{said, says}

-- ---- the row of their numbers

flag_read : (bits first : ℕ) (flag : Bool) → field bits first 1 ≡ digit flag → is_set (place first 1) bits ≡ flag
flag_read bits first true e = rw e refl
flag_read bits first false e = rw e refl

held : (t : Table) (c : FieldValues) (bits : ℕ) → c.user < 2 ^ 32 → Holds (row_of t c) bits → SpellsFields t c bits
held t c bits eight (
  fu,
  (
    ft,
    (
      su,
      (
        st,
        (
          mu,
          (
            mt,
            (
              hu,
              (
                ht,
                (
                  drop,
                  (colour, (zero, (one, (two, (u1, (u2, (u3, (u4, (u5, (u6, (u7, (u8, end)))))))))))),
                ),
              ),
            ),
          ),
        ),
      ),
    ),
  ),
) = record {
  address = record {
    frame_units = fu;
    frame_tens = ft;
    second_units = su;
    second_tens = st;
    minute_units = mu;
    minute_tens = mt;
    hour_units = hu;
    hour_tens = ht;
  };
  flags = record {
    drop_frame = flag_read bits t.drop_frame c.flags.drop_frame drop;
    colour_frame = flag_read bits t.colour_frame c.flags.colour_frame colour;
    group_flag_zero = flag_read bits t.group_flag_zero c.flags.group_flag_zero zero;
    group_flag_one = flag_read bits t.group_flag_one c.flags.group_flag_one one;
    group_flag_two = flag_read bits t.group_flag_two c.flags.group_flag_two two;
  };
  user = record {
    one = u1;
    two = u2;
    three = u3;
    four = u4;
    five = u5;
    six = u6;
    seven = u7;
    eight = u8;
    no_more = eight;
  };
}

flag_held : (bits first : ℕ) (flag : Bool) → is_set (place first 1) bits ≡ flag → field bits first 1 ≡ digit flag
flag_held bits first true e = eqb-true (field bits first 1) 1 e
flag_held bits first false e =
    let h = eqb-false (field bits first 1) 1 e in
    let low = mod_below (bits / 2 ^ first) (2 ^ 1) (lit< tt) in
    grind arith

holds : (t : Table) (c : FieldValues) (bits : ℕ) → SpellsFields t c bits → Holds (row_of t c) bits
holds t c bits s =
    let a = s.address in
    let f = s.flags in
    let u = s.user in
    also a.frame_units (also a.frame_tens (also a.second_units (also a.second_tens
    (also a.minute_units (also a.minute_tens (also a.hour_units (also a.hour_tens
    (also (flag_held bits t.drop_frame c.flags.drop_frame f.drop_frame)
    (also (flag_held bits t.colour_frame c.flags.colour_frame f.colour_frame)
    (also (flag_held bits t.group_flag_zero c.flags.group_flag_zero f.group_flag_zero)
    (also (flag_held bits t.group_flag_one c.flags.group_flag_one f.group_flag_one)
    (also (flag_held bits t.group_flag_two c.flags.group_flag_two f.group_flag_two)
    (also u.one (also u.two (also u.three (also u.four
    (also u.five (also u.six (also u.seven (also u.eight tt))))))))))))))))))))

group_below : (number user : ℕ) → group number user < 16
group_below number user = mod_below (user / 2 ^ (4 * (number - 1))) (2 ^ 4) (lit< tt)

fit : (t : Table) (c : FieldValues) → IsLabel c.label → Fit (row_of t c)
fit t c label =
    let rate = rate_within (system_with c.label.count) in
    let frames = label.frames in
    let seconds = label.seconds in
    let minutes = label.minutes in
    let hours = label.hours in
    let u = c.user in
    also (omega arith) (also (omega arith) (also (omega arith) (also (omega arith)
    (also (omega arith) (also (omega arith) (also (omega arith) (also (omega arith)
    (also (digit_below c.flags.drop_frame) (also (digit_below c.flags.colour_frame)
    (also (digit_below c.flags.group_flag_zero) (also (digit_below c.flags.group_flag_one)
    (also (digit_below c.flags.group_flag_two)
    (also (group_below 1 u) (also (group_below 2 u) (also (group_below 3 u) (also (group_below 4 u)
    (also (group_below 5 u) (also (group_below 6 u) (also (group_below 7 u)
    (also (group_below 8 u) tt))))))))))))))))))))

pub are_exact : AreExact
are_exact =
    record {
      said = said;
      says = says;
      held = held;
      holds = holds;
      fit = fit;
      flag_read = flag_read;
      flag_held =
          flag_held;
    }
