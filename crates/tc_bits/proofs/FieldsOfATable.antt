-- What the places of a table hold are the digits, flags and user bits that they say, and their numbers are a row.
use Rattle.std.proofs.Common.{◌≡◌, ℕ, ◌+◌, ◌-◌, ◌/◌, ◌^◌, ◌<◌, ◌≤◌, Bool, true, sym, ap, lit<, arith}
use Rattle.std.specs.Prelude.{◌&&◌, nat_le, [], ◌∷◌}
use Rattle.std.proofs.lemmas.Bool.{leb-true, and_parts}
use Rattle.std.proofs.lemmas.List.Sums.{AllPass-from_list_all}
use Rattle.std.proofs.lemmas.Nat.{mod_below}
use Rattle.tc_address.specs.declared.system.System.{System}
use Rattle.tc_address.specs.Count.{system_with}
use Rattle.tc_bits.specs.declared.flags.Flags.{Flags}
use Rattle.tc_bits.specs.declared.place.Place.{Place}
use Rattle.tc_bits.specs.declared.raw.RawFields.{RawFields}
use Rattle.tc_bits.specs.declared.table.Table.{Table}
use Rattle.tc_bits.specs.Fields.{FieldValues, IsFields, Says}
use Rattle.tc_bits.specs.Fields.{flags as flags_with}
use Rattle.tc_bits.specs.Reading.{flags_in, raw_in, user_in}
use Rattle.tc_bits.specs.Register.{field}
use Rattle.tc_bits.specs.Spelling.{SpellsFields, SpellsFlags, SpellsUserBits}
use Rattle.tc_bits.specs.Table.{IsTable, is_table, place, places_in}
use Rattle.tc_bits.specs.UserBits.{group, number_of_groups}

-- ---- the test of a table

from_test : (first width : ℕ) → (nat_le 1 width && nat_le (first + width) 100) ≡ true → first + width ≤ 100
from_test first width e = leb-true (first + width) 100 (and_parts (nat_le 1 width) (nat_le (first + width) 100) e).1

pub table_is : (t : Table) → is_table t ≡ true → IsTable t
table_is t e =
    let h = AllPass-from_list_all (λ (p : Place). nat_le 1 p.width && nat_le (p.first + p.width) 100) (places_in t) e in
    record {
      frame_units = from_test t.frame_units 4 (h 0 (place 0 0) (lit< tt));
      frame_tens = from_test t.frame_tens 2 (h 1 (place 0 0) (lit< tt));
      second_units = from_test t.second_units 4 (h 2 (place 0 0) (lit< tt));
      second_tens = from_test t.second_tens 3 (h 3 (place 0 0) (lit< tt));
      minute_units = from_test t.minute_units 4 (h 4 (place 0 0) (lit< tt));
      minute_tens = from_test t.minute_tens 3 (h 5 (place 0 0) (lit< tt));
      hour_units = from_test t.hour_units 4 (h 6 (place 0 0) (lit< tt));
      hour_tens = from_test t.hour_tens 2 (h 7 (place 0 0) (lit< tt));
      drop_frame = from_test t.drop_frame 1 (h 8 (place 0 0) (lit< tt));
      colour_frame = from_test t.colour_frame 1 (h 9 (place 0 0) (lit< tt));
      group_flag_zero = from_test t.group_flag_zero 1 (h 10 (place 0 0) (lit< tt));
      group_flag_one = from_test t.group_flag_one 1 (h 11 (place 0 0) (lit< tt));
      group_flag_two = from_test t.group_flag_two 1 (h 12 (place 0 0) (lit< tt));
      user_one = from_test t.user_one 4 (h 13 (place 0 0) (lit< tt));
      user_two = from_test t.user_two 4 (h 14 (place 0 0) (lit< tt));
      user_three = from_test t.user_three 4 (h 15 (place 0 0) (lit< tt));
      user_four = from_test t.user_four 4 (h 16 (place 0 0) (lit< tt));
      user_five = from_test t.user_five 4 (h 17 (place 0 0) (lit< tt));
      user_six = from_test t.user_six 4 (h 18 (place 0 0) (lit< tt));
      user_seven = from_test t.user_seven 4 (h 19 (place 0 0) (lit< tt));
      user_eight = from_test t.user_eight 4 (h 20 (place 0 0) (lit< tt));
    }

-- ---- the user groups

-- eight numbers are the groups of some user bits
record AreGroups (a b c d e f g h user : ℕ) : Type 0 where
  pub one : a ≡ group 1 user
  pub two : b ≡ group 2 user
  pub three : c ≡ group 3 user
  pub four : d ≡ group 4 user
  pub five : e ≡ group 5 user
  pub six : f ≡ group 6 user
  pub seven : g ≡ group 7 user
  pub eight : h ≡ group 8 user
  pub no_more : user < 2 ^ 32

groups_of_sum : (a b c d e f g h : ℕ) → a < 16 → b < 16 → c < 16 → d < 16 → e < 16 → f < 16 → g < 16 → h < 16
    → AreGroups a b c d e f g h (number_of_groups (a ∷ b ∷ c ∷ d ∷ e ∷ f ∷ g ∷ h ∷ []))
groups_of_sum a b c d e f g h ha hb hc hd he hf hg hh = record {
  one = omega arith;
  two = omega arith;
  three = omega arith;
  four = omega arith;
  five = omega arith;
  six = omega arith;
  seven = omega arith;
  eight = omega arith;
  no_more = omega arith;
}

sum_of_groups : (a b c d e f g h user : ℕ) → AreGroups a b c d e f g h user
    → user ≡ number_of_groups (a ∷ b ∷ c ∷ d ∷ e ∷ f ∷ g ∷ h ∷ [])
sum_of_groups a b c d e f g h user are = omega arith

below_sixteen : (bits first : ℕ) → field bits first 4 < 16
below_sixteen bits first = mod_below (bits / 2 ^ first) (2 ^ 4) (lit< tt)

user_spelled : (t : Table) (user bits : ℕ) → user ≡ user_in t bits → SpellsUserBits t user bits
user_spelled t user bits e =
    let s = groups_of_sum (field bits t.user_one 4) (field bits t.user_two 4) (field bits t.user_three 4)
    (field bits t.user_four 4)
    (field bits t.user_five 4) (field bits t.user_six 4) (field bits t.user_seven 4) (field bits t.user_eight 4)
    (below_sixteen bits t.user_one) (below_sixteen bits t.user_two) (below_sixteen bits t.user_three)
    (below_sixteen bits t.user_four)
    (below_sixteen bits t.user_five) (below_sixteen bits t.user_six) (below_sixteen bits t.user_seven)
    (below_sixteen bits t.user_eight) in
    let s' = rw (← e) at s in
    record {
      one = s'.one;
      two = s'.two;
      three = s'.three;
      four = s'.four;
      five = s'.five;
      six = s'.six;
      seven = s'.seven;
      eight = s'.eight;
      no_more = s'.no_more;
    }

user_read : (t : Table) (user bits : ℕ) → SpellsUserBits t user bits → user ≡ user_in t bits
user_read t user bits s =
    sum_of_groups (field bits t.user_one 4) (field bits t.user_two 4) (field bits t.user_three 4)
    (field bits t.user_four 4)
    (field bits t.user_five 4) (field bits t.user_six 4) (field bits t.user_seven 4) (field bits t.user_eight 4) user
    (record {
      one = s.one;
      two = s.two;
      three = s.three;
      four = s.four;
      five = s.five;
      six = s.six;
      seven = s.seven;
      eight = s.eight;
      no_more = s.no_more;
    })

-- ---- digits that say some fields spell them, and the other way round

pub said : (system : System) (t : Table) (c : FieldValues) (bits : ℕ) → Says system (raw_in t bits) c
    → SpellsFields t c bits
said system t c bits says =
    let e = says.digits in
    let flags : c.flags ≡ flags_in t bits = ap (λ (raw : RawFields). raw.flags) e in
    record {
      address = record {
        frame_units = sym (ap (λ (raw : RawFields). raw.frame_units) e);
        frame_tens = sym (ap (λ (raw : RawFields). raw.frame_tens) e);
        second_units = sym (ap (λ (raw : RawFields). raw.second_units) e);
        second_tens = sym (ap (λ (raw : RawFields). raw.second_tens) e);
        minute_units = sym (ap (λ (raw : RawFields). raw.minute_units) e);
        minute_tens = sym (ap (λ (raw : RawFields). raw.minute_tens) e);
        hour_units = sym (ap (λ (raw : RawFields). raw.hour_units) e);
        hour_tens = sym (ap (λ (raw : RawFields). raw.hour_tens) e);
      };
      flags = record {
        drop_frame = sym (ap (λ (f : Flags). f.drop_frame) flags);
        colour_frame = sym (ap (λ (f : Flags). f.colour_frame) flags);
        group_flag_zero = sym (ap (λ (f : Flags). f.group_flag_zero) flags);
        group_flag_one = sym (ap (λ (f : Flags). f.group_flag_one) flags);
        group_flag_two = sym (ap (λ (f : Flags). f.group_flag_two) flags);
      };
      user = user_spelled t c.user bits (ap (λ (raw : RawFields). raw.user) e);
    }

same_flags : (p q r s t p' q' r' s' t' : Bool) → p ≡ p' → q ≡ q' → r ≡ r' → s ≡ s' → t ≡ t'
    → flags_with p q r s t ≡ flags_with p' q' r' s' t'
same_flags p q r s t p' q' r' s' t' hp hq hr hs ht = cc

abbrev raw_with : ℕ → ℕ → ℕ → ℕ → ℕ → ℕ → ℕ → ℕ → Flags → ℕ → RawFields
raw_with a b c d e f g h flags user = record {
  frame_units = a;
  frame_tens = b;
  second_units = c;
  second_tens = d;
  minute_units = e;
  minute_tens = f;
  hour_units = g;
  hour_tens = h;
  flags = flags;
  user = user;
}

same_raw : (a b c d e f g h : ℕ) (flags : Flags) (user : ℕ) (a' b' c' d' e' f' g' h' : ℕ) (flags' : Flags) (user' : ℕ)
    → a ≡ a' → b ≡ b' → c ≡ c' → d ≡ d' → e ≡ e' → f ≡ f' → g ≡ g' → h ≡ h' → flags ≡ flags' → user ≡ user'
    → raw_with a b c d e f g h flags user ≡ raw_with a' b' c' d' e' f' g' h' flags' user'
same_raw a b c d e f g h flags user a' b' c' d' e' f' g' h' flags' user' ha hb hc hd he hf hg hh hflags huser = cc

flags_read : (t : Table) (flags : Flags) (bits : ℕ) → SpellsFlags t flags bits → flags ≡ flags_in t bits
flags_read t flags bits s =
    same_flags flags.drop_frame flags.colour_frame flags.group_flag_zero flags.group_flag_one flags.group_flag_two
    _ _ _ _ _ (sym s.drop_frame) (sym s.colour_frame) (sym s.group_flag_zero) (sym s.group_flag_one)
    (sym s.group_flag_two)

pub says : (system : System) (t : Table) (c : FieldValues) (bits : ℕ) → IsFields c → system_with c.label.count ≡ system
    → SpellsFields t c bits → Says system (raw_in t bits) c
says system t c bits valid count s =
    let a = s.address in
    record {
      valid = valid;
      count = count;
      digits = same_raw _ _ _ _ _ _ _ _ c.flags c.user _ _ _ _ _ _ _ _ (flags_in t bits) (user_in t bits)
          (sym a.frame_units) (sym a.frame_tens) (sym a.second_units) (sym a.second_tens)
          (sym a.minute_units) (sym a.minute_tens) (sym a.hour_units) (sym a.hour_tens)
          (flags_read t c.flags bits s.flags) (user_read t c.user bits s.user);
    }
